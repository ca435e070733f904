-- Lists that meet the constraints of their attributes, and the least list of the largest set of these.
use Rattle.std.specs.Prelude.{◌≡◌, ◌⊎◌, ℕ, ◌<◌, true, false, List, Contains}
use Rattle.std.specs.FinSet as set
use Rattle.lane_rows.specs.Matrix.{entry}
use Rattle.ftl_model.specs.lists.Lists.{AreDistinct, place_in}
use Rattle.ftl_order.specs.automatic.Fitting.{HasAll, IsAtMost}
use Rattle.ftl_scheduler.specs.largest_sets.Rows.{Has, Row}
use Rattle.ftl_scheduler.specs.declared.largest_sets.constraints.Constraints.{Constraints}

-- The list has distinct attributes of the row that are not done. What it uses is done or in the list, what it needs
-- earlier is done or stands earlier, and what it needs done is.
pub record MeetsConstraints (n : Constraints) (all done : Row) (list : List ℕ) : Type 0 where
  pub distinct : AreDistinct list
  pub within : (a : ℕ) → Contains list a → Has all a
  pub not_done : (a : ℕ) → Contains list a → set.contains done a ≡ false
  pub used : (x y : ℕ) → Contains list y → entry n.users x y ≡ true → Has done x ⊎ Contains list x
  pub in_turn : (x y : ℕ) → Contains list y → entry n.earlier y x ≡ true
      → Has done x ⊎ (Contains list x × (place_in list x < place_in list y))
  pub late : (x y : ℕ) → Contains list y → entry n.late y x ≡ true → Has done x

-- the least list of the largest set
pub record IsLargestList (n : Constraints) (all done : Row) (list : List ℕ) : Type 0 where
  pub meets : MeetsConstraints n all done list
  pub largest : (other : List ℕ) → MeetsConstraints n all done other → HasAll list other
  pub least : (other : List ℕ) → MeetsConstraints n all done other → HasAll other list → IsAtMost list other
