-- The steps from classes, and from their interfaces, to the interfaces of their children, as the entries of a matrix.
-- Its first rows are those of the interfaces, the rows behind them those of the classes.
use Rattle.std.specs.Prelude.{◌≡◌, ◌⊎◌, ◌↔◌, ℕ, ◌+◌, ◌<◌, ◌≤◌, true, List, length}
use Rattle.std.specs.Ordering.{nat_cmp}
use Rattle.std.specs.FinSet as set
use Rattle.lane_rows.specs.Matrix.{entry}
use Rattle.ftl_model.specs.layout.AttributeGrammar.{AttributeGrammar}
use Rattle.ftl_order.specs.orders.Lawful.{IsLawful}
use Rattle.ftl_nests.specs.Region.{HasChildOf, InRegion}

abbrev pub Rows : Type 0
Rows = List (set.FinSet nat_cmp)

-- the row of a class
abbrev pub class_row : AttributeGrammar → (class : ℕ) → ℕ
class_row g class = g.interface_count + class

-- the row of a class, or that of its interface
abbrev pub IsRowOf : AttributeGrammar → (class row : ℕ) → Type 0
IsRowOf g class row = (row ≡ g.interface class) ⊎ (row ≡ class_row g class)

-- a step from a row of the class to the interface of a child that it has
abbrev pub IsStepOf : AttributeGrammar → (class from to : ℕ) → Type 0
IsStepOf g class from to = IsRowOf g class from × HasChildOf g class to

-- the matrix has the steps of the first classes, so many of them, and no other entry
pub record AreStepsBelow (g : AttributeGrammar) (count : ℕ) (steps : Rows) : Type 0 where
  pub size : length steps ≡ g.interface_count + g.class_count
  pub are :
      (from to : ℕ)
      → (entry steps from to ≡ true) ↔ ((class : ℕ) × (class < count) × IsStepOf g class from to)

-- of a lawful grammar, the row of each class has the interfaces of its region, as that of a host class
pub record AreRegions (g : AttributeGrammar) (leads : Rows) : Type 0 where
  pub lawful : IsLawful g
  pub few : g.interface_count + g.class_count ≤ 2048
  pub size : length leads ≡ g.interface_count + g.class_count
  pub tell :
      (host i : ℕ) → host < g.class_count → (entry leads (class_row g host) i ≡ true) ↔ InRegion g host i
