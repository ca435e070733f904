-- Rows of constraints while reads are entered, rule by rule and in the order of their text.
use Rattle.std.specs.Prelude.{◌≡◌, ◌⊎◌, ℕ, ◌<◌, ◌==◌, ◌&&◌, ◌||◌, Bool, true, false, List, length, Some}
use Rattle.lane_rows.specs.Matrix.{entry}
use Rattle.ftl_model.specs.layout.AttributeGrammar.{AttributeGrammar}
use Rattle.ftl_order.specs.orders.Lawful.{class_of_rule}
use Rattle.ftl_order.specs.orders.Ordered.{visit_place}
use Rattle.ftl_order.specs.orders.Schedule.{PassKind}
use Rattle.ftl_order.specs.dependencies.DepReads.{rule_reads}
use Rattle.ftl_order.specs.dependencies.Writers.{first_writer}
use Rattle.ftl_scheduler.specs.largest_sets.Rows.{Row}
use Rattle.ftl_scheduler.specs.declared.largest_sets.constraints.Constraints.{Constraints}
use Rattle.ftl_schedule.specs.check.RuleAt.{read_at, rule_at}
use Rattle.ftl_scheduler.specs.outcomes.Constraint as constraints
use Rattle.ftl_scheduler.specs.outcomes.Constraint.{Asks, beside, done_before, earlier, constraint_of}
use Rattle.ftl_scheduler.specs.declared.finding.constraint.Constraint.{Constraint}
use Rattle.ftl_scheduler.specs.declared.finding.constraint.Constraint.TheVariants as found

-- what a constraint that is found stands for
abbrev pub constraint_meant : Constraint → constraints.Constraint
constraint_meant found.Beside = beside
constraint_meant found.Earlier = earlier
constraint_meant found.DoneBefore = done_before

-- whether a constraint is that the writer stands earlier
abbrev pub is_earlier : constraints.Constraint → Bool
is_earlier beside = false
is_earlier earlier = true
is_earlier done_before = false

-- whether a constraint is met in the pass
abbrev pub is_use : constraints.Constraint → Bool
is_use beside = true
is_use earlier = true
is_use done_before = false

-- whether a constraint is that the writer is done
abbrev pub is_late : constraints.Constraint → Bool
is_late beside = false
is_late earlier = false
is_late done_before = true

-- the rows of each matrix are so many
pub record AreOfSize (n : Constraints) (size : ℕ) : Type 0 where
  pub earlier : length n.earlier ≡ size
  pub followers : length n.followers ≡ size
  pub users : length n.users ≡ size
  pub late : length n.late ≡ size

-- no matrix has an entry
pub record AreEmpty (n : Constraints) : Type 0 where
  pub earlier : (a b : ℕ) → entry n.earlier a b ≡ false
  pub followers : (a b : ℕ) → entry n.followers a b ≡ false
  pub users : (a b : ℕ) → entry n.users a b ≡ false
  pub late : (a b : ℕ) → entry n.late a b ≡ false

-- a matrix has one entry more, where one is added
abbrev pub Grows : (adds : Bool) → (old new : List Row) → (start end : ℕ) → Type 0
Grows adds old new start end =
    (a b : ℕ) → entry new a b ≡ ((adds && ((a == start) && (b == end))) || entry old a b)

-- what y needs of x is entered, and nothing else
pub record IsEntered (constraint : constraints.Constraint) (old new : Constraints) (x y : ℕ) : Type 0 where
  pub earlier : Grows (is_earlier constraint) old.earlier new.earlier y x
  pub followers : Grows (is_earlier constraint) old.followers new.followers x y
  pub users : Grows (is_use constraint) old.users new.users x y
  pub late : Grows (is_late constraint) old.late new.late y x

-- the rows have the entries of a constraint
abbrev pub HasConstraint : Constraints → (x y : ℕ) → constraints.Constraint → Type 0
HasConstraint n x y beside = entry n.users x y ≡ true
HasConstraint n x y earlier = (entry n.users x y ≡ true) × (entry n.earlier y x ≡ true)
HasConstraint n x y done_before = entry n.late y x ≡ true

-- what the read at this place asks of its first writer is entered
abbrev pub HasRead : AttributeGrammar → PassKind → Constraints → (rule place : ℕ) → Type 0
HasRead g kind n rule place =
    (writer : ℕ)
    → first_writer g (class_of_rule (rule_at g rule)) (read_at (rule_reads g (rule_at g rule)) place) ≡ Some writer
    → HasConstraint n (visit_place g (rule_at g writer)).attribute (visit_place g (rule_at g rule)).attribute
    (constraint_of kind (read_at (rule_reads g (rule_at g rule)) place) (visit_place g (rule_at g writer))
    (visit_place g (rule_at g rule)))

-- each entry is asked for, and the reads of the rules before this one have theirs, and of it those before this place
pub record AreEnteredTo (g : AttributeGrammar) (kind : PassKind) (n : Constraints) (rule place : ℕ) : Type 0 where
  pub sized : AreOfSize n g.attribute_count
  pub turned : (x y : ℕ) → entry n.followers x y ≡ entry n.earlier y x
  pub before : (x y : ℕ) → entry n.earlier y x ≡ true → Asks g kind earlier x y
  pub used : (x y : ℕ) → entry n.users x y ≡ true → Asks g kind beside x y ⊎ Asks g kind earlier x y
  pub late : (x y : ℕ) → entry n.late y x ≡ true → Asks g kind done_before x y
  pub reads :
      (r k : ℕ) → (r < rule) ⊎ ((r ≡ rule) × (k < place)) → k < length (rule_reads g (rule_at g r))
      → HasRead g kind n r k
