-- Matrices of classes after their walks are closed, and the circles that they tell.
use Rattle.std.specs.Prelude.{◌≡◌, ◌⊎◌, ◌↔◌, ℕ, ◌<◌, Bool, true, false, List, Contains}
use Rattle.ftl_model.specs.layout.AttributeGrammar.{AttributeGrammar}
use Rattle.lane_rows.specs.Matrix.{entry}
use Rattle.ftl_order.specs.orders.Lawful.{OfClass}
use Rattle.ftl_noncircular.specs.grammars.FirstCircular.{IsEarlierVertex}
use Rattle.ftl_noncircular.specs.grammars.Noncircular.{Dependence, Edge, IsCircular, IsVertex, Vertex, of_child}
use Rattle.ftl_noncircular.specs.grammars.Noncircular.{of_self}
use Rattle.ftl_noncircular.specs.grammars.Walks.{Walk}
use Rattle.ftl_noncircular.specs.search.Numbers.{number}
use Rattle.ftl_noncircular.specs.search.Searches.{Rows}

-- the entry from the vertex to itself
abbrev pub on_diagonal : (places : List ℕ) → Rows → Vertex → Bool
on_diagonal places edges v = entry edges (number places v) (number places v)

-- a vertex has an entry to itself where a walk leads from it to itself
abbrev pub TellsWalks : AttributeGrammar → (places : List ℕ) → (prevs : Bool) → (class : ℕ) → Rows → Type 0
TellsWalks g places prevs class edges =
    (v : Vertex) → IsVertex g class v
    → (on_diagonal places edges v ≡ true) ↔ Walk (Edge g (Dependence g) prevs class) v v

-- the least number of which something holds
abbrev pub IsLeast : (ℕ → Type 0) → ℕ → Type 0
IsLeast P a = P a × ((b : ℕ) → b < a → P b → ⊥)

-- it holds of none
abbrev pub HoldsOfNone : (ℕ → Type 0) → Type 0
HoldsOfNone P = (a : ℕ) → P a → ⊥

-- a circle at an attribute of the node
abbrev pub IsOwnCircle : AttributeGrammar → (places : List ℕ) → (class : ℕ) → (all : Rows) → (attribute : ℕ) → Type 0
IsOwnCircle g places class all a = OfClass g class a × (on_diagonal places all (of_self a) ≡ true)

-- a circle at an attribute of the kids in a child: without a read by `prev`, or any where the child is single
abbrev pub IsChildCircle : AttributeGrammar → (places : List ℕ) → (class child : ℕ) → (all without : Rows)
    → (attribute : ℕ)
    → Type 0
IsChildCircle g places class c all without a =
    Contains (g.shared (g.child_interface class c)) a
    × ((on_diagonal places without (of_child c a) ≡ true)
    ⊎ ((g.is_list class c ≡ false) × (on_diagonal places all (of_child c a) ≡ true)))

-- the first circular vertex of a class
pub record IsFirstIn (g : AttributeGrammar) (class : ℕ) (v : Vertex) : Type 0 where
  pub vertex : IsVertex g class v
  pub circular : IsCircular g class v
  pub first : (w : Vertex) → IsVertex g class w → IsEarlierVertex w v → IsCircular g class w → ⊥

-- no vertex of a class is circular
abbrev pub HasNone : AttributeGrammar → (class : ℕ) → Type 0
HasNone g class = (v : Vertex) → IsVertex g class v → IsCircular g class v → ⊥
