-- Matrices of the edges of classes, and which pairs walks in them show.
use Rattle.std.specs.Prelude.{◌≡◌, ℕ, Bool, true, List, length}
use Rattle.std.specs.Ordering.{nat_cmp}
use Rattle.std.specs.FinSet as set
use Rattle.ftl_model.specs.layout.AttributeGrammar.{AttributeGrammar}
use Rattle.lane_rows.specs.Matrix.{entry}
use Rattle.ftl_noncircular.specs.walks.WalkTables.{IsFrom}
use Rattle.ftl_noncircular.specs.grammars.Noncircular.{Dependence, Edge, IsPort, IsRead, IsVertex, Vertex, of_self}
use Rattle.ftl_noncircular.specs.search.Numbers.{number, vertex_count}

abbrev pub Rows : Type 0
Rows = List (set.FinSet nat_cmp)

-- each entry is an edge, where the least family is what dependences there are
abbrev pub AreEdges : AttributeGrammar → (places : List ℕ) → (prevs : Bool) → (class : ℕ) → Rows → Type 0
AreEdges g places prevs class edges =
    (x y : ℕ) → entry edges x y ≡ true
    → (v : Vertex) × (w : Vertex) × (number places v ≡ x) × (number places w ≡ y)
    × Edge g (Dependence g) prevs class v w

-- each edge, by the family told, is an entry
abbrev pub HaveEdges : AttributeGrammar → (places : List ℕ) → (prevs : Bool) → (class : ℕ) → (has : ℕ → ℕ → Type 0)
    → Rows → Type 0
HaveEdges g places prevs class has edges =
    (v w : Vertex) → Edge g has prevs class v w → entry edges (number places v) (number places w) ≡ true

-- each edge of a read is an entry
abbrev pub HaveReads : AttributeGrammar → (places : List ℕ) → (prevs : Bool) → (class : ℕ) → Rows → Type 0
HaveReads g places prevs class edges =
    (v w : Vertex) → IsVertex g class v → IsVertex g class w → IsRead g prevs class v w
    → entry edges (number places v) (number places w) ≡ true

-- the matrix has as many rows as the class has numbers; each edge of a read is in it, and each entry is an edge
pub record HasReads (g : AttributeGrammar) (places : List ℕ) (prevs : Bool) (class : ℕ) (edges : Rows) : Type 0 where
  pub size : length edges ≡ vertex_count g class
  pub are : AreEdges g places prevs class edges
  pub have : HaveReads g places prevs class edges

-- the matrix has just the edges
pub record HasEdges (g : AttributeGrammar) (places : List ℕ) (prevs : Bool) (class : ℕ) (edges : Rows) : Type 0 where
  pub size : length edges ≡ vertex_count g class
  pub are : AreEdges g places prevs class edges
  pub have : HaveEdges g places prevs class (Dependence g) edges

-- each pair between which walks lead was found
abbrev pub AreNoted : AttributeGrammar → (places : List ℕ) → (class : ℕ) → Rows → (found : Rows) → Type 0
AreNoted g places class edges found =
    (a b : ℕ) → IsPort g class a b → IsFrom edges (number places (of_self a)) (number places (of_self b))
    → entry found a b ≡ true
