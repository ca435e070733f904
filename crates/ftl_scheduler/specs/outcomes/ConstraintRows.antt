-- Rows of what the attributes of a grammar ask of one another.
use Rattle.std.specs.Prelude.{◌≡◌, ◌⊎◌, ◌↔◌, ℕ, true, false, List, Contains}
use Rattle.std.specs.FinSet as set
use Rattle.lane_rows.specs.Matrix.{entry}
use Rattle.ftl_model.specs.layout.AttributeGrammar.{AttributeGrammar}
use Rattle.ftl_order.specs.orders.Schedule.{PassKind, bottomup, inorder, topdown}
use Rattle.ftl_order.specs.automatic.Fitting.{IsComputed}
use Rattle.ftl_scheduler.specs.largest_sets.Rows.{AreSized, AreWhole, Has, Row}
use Rattle.ftl_scheduler.specs.declared.largest_sets.constraints.Constraints.{Constraints}
use Rattle.ftl_scheduler.specs.declared.outcomes.next.Tables.{Tables}
use Rattle.ftl_scheduler.specs.outcomes.Constraint.{Asks, beside, done_before, earlier}

-- the rows are those of a kind of pass
pub record AreConstraintsOf (g : AttributeGrammar) (kind : PassKind) (n : Constraints) : Type 0 where
  pub before : (x y : ℕ) → (entry n.earlier y x ≡ true) ↔ Asks g kind earlier x y
  pub used : (x y : ℕ) → (entry n.users x y ≡ true) ↔ (Asks g kind beside x y ⊎ Asks g kind earlier x y)
  pub late : (x y : ℕ) → (entry n.late y x ≡ true) ↔ Asks g kind done_before x y

-- the row has the computed attributes
abbrev pub HasComputed : AttributeGrammar → Row → Type 0
HasComputed g all = (a : ℕ) → Has all a ↔ IsComputed g a

-- the row has what the list has
abbrev pub IsRowOf : List ℕ → Row → Type 0
IsRowOf list row = (a : ℕ) → Has row a ↔ Contains list a

-- the rows of each kind
pub record AreTablesOf (g : AttributeGrammar) (t : Tables) : Type 0 where
  pub down : AreConstraintsOf g topdown t.down
  pub up : AreConstraintsOf g bottomup t.up
  pub in_order : AreConstraintsOf g inorder t.in_order

-- the rows of each kind are of one size and whole
pub record AreUsable (t : Tables) (all : Row) (size : ℕ) : Type 0 where
  pub down_sized : AreSized t.down all size
  pub down_whole : AreWhole t.down all
  pub up_sized : AreSized t.up all size
  pub up_whole : AreWhole t.up all
  pub in_order_sized : AreSized t.in_order all size
  pub in_order_whole : AreWhole t.in_order all

-- each entry is of one row and not of another
abbrev pub AreNew : (all done : Row) → List ℕ → Type 0
AreNew all done list = (a : ℕ) → Contains list a → Has all a × (set.contains done a ≡ false)
