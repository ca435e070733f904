-- What attributes of one kind of pass need, as rows of numbers.
use Rattle.std.specs.Prelude.{◌≡◌, ℕ, ◌<◌, ◌≤◌, true, length}
use Rattle.std.specs.Ordering.{nat_cmp}
use Rattle.std.specs.FinSet as set
use Rattle.lane_rows.specs.Matrix.{entry}
use Rattle.ftl_scheduler.specs.declared.largest_sets.constraints.Constraints.{Constraints}

-- a set of attributes
abbrev pub Row : Type 0
Row = set.FinSet nat_cmp

-- the row has the attribute
abbrev pub Has : Row → ℕ → Type 0
Has row a = set.contains row a ≡ true

-- the numbers below a size are those of the rows, and each attribute is one of them
pub record AreSized (n : Constraints) (all : Row) (size : ℕ) : Type 0 where
  pub few : size ≤ 2048
  pub earlier : length n.earlier ≡ size
  pub followers : length n.followers ≡ size
  pub users : length n.users ≡ size
  pub late : length n.late ≡ size
  pub known : (a : ℕ) → Has all a → a < size

-- Followers are the earlier constraints turned round, each earlier constraint is a use too, and uses are between the
-- attributes of a row.
pub record AreWhole (n : Constraints) (all : Row) : Type 0 where
  pub turned : (x y : ℕ) → entry n.followers x y ≡ entry n.earlier y x
  pub used : (x y : ℕ) → entry n.earlier y x ≡ true → entry n.users x y ≡ true
  pub writers : (x y : ℕ) → entry n.users x y ≡ true → Has all x
  pub readers : (x y : ℕ) → entry n.users x y ≡ true → Has all y
