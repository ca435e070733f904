-- Absolutely noncircular grammars (Knuth 1968, 1971; Kennedy and Warren 1976): what may depend on what within a class,
-- with the kids of a list in one set, and where this comes back to itself.
use Rattle.std.specs.Prelude.{◌≡◌, ◌⊎◌, ℕ, ◌<◌, Bool, true, false, Contains}
use Rattle.ftl_model.specs.layout.AttributeGrammar.{AttributeGrammar, Read, RuleName, each_read, for_child, for_self}
use Rattle.ftl_model.specs.layout.AttributeGrammar.{inherited, last_read, prev_read, self_read, single_read, synthesized}
use Rattle.ftl_model.specs.layout.AttributeGrammar.{this_read}
use Rattle.ftl_model.specs.layout.Solves.{rule_named}
use Rattle.ftl_order.specs.orders.Lawful.{IsRule, OfChild, OfClass, class_of_rule}
use Rattle.ftl_order.specs.dependencies.DepReads.{reads_of_parts}
use Rattle.ftl_noncircular.specs.grammars.Walks.{Walk}

-- an attribute of the node, or of the kids in a child, all kids of a list in one
pub data Vertex : Type 0 where
  of_self : (attribute : ℕ) → Vertex
  of_child : (child attribute : ℕ) → Vertex

abbrev pub IsVertex : AttributeGrammar → (class : ℕ) → Vertex → Type 0
IsVertex g class (of_self a) = OfClass g class a
IsVertex g class (of_child c a) = (c < g.child_count class) × OfChild g class c a

-- what is read
abbrev pub vertex_of : Read → Vertex
vertex_of (self_read a) = of_self a
vertex_of (single_read c a) = of_child c a
vertex_of (each_read c a) = of_child c a
vertex_of (this_read c a) = of_child c a
vertex_of (prev_read c a) = of_child c a
vertex_of (last_read c a) = of_child c a

-- what a rule defines
abbrev pub target_vertex : RuleName → Vertex
target_vertex (for_self k a) = of_self a
target_vertex (for_child k c a) = of_child c a

-- the reads that make edges: all, or all but those by `prev`
abbrev pub MakesEdge : (prevs : Bool) → Read → Type 0
MakesEdge true r = Unit {0}
MakesEdge false (self_read a) = Unit {0}
MakesEdge false (single_read c a) = Unit {0}
MakesEdge false (each_read c a) = Unit {0}
MakesEdge false (this_read c a) = Unit {0}
MakesEdge false (prev_read c a) = ⊥
MakesEdge false (last_read c a) = Unit {0}

-- a rule of the class defines y and reads x; where `prevs` is false, otherwise than by `prev`
abbrev pub IsRead : AttributeGrammar → (prevs : Bool) → (class : ℕ) → Vertex → Vertex → Type 0
IsRead g prevs class x y =
    (w : RuleName) × IsRule g w × (class_of_rule w ≡ class) × (y ≡ target_vertex w)
    × ((r : Read) × Contains (reads_of_parts (rule_named g w).parts) r × MakesEdge prevs r × (x ≡ vertex_of r))

-- Pairs of attributes of one interface: the second may depend on the first through a node's tree. No interface is named,
-- as each attribute of a lawful grammar is declared once; only pairs of an inherited and a synthesized attribute count.
abbrev pub Family : Type 1
Family = ℕ → ℕ → Type 0

-- x and y are an inherited and a synthesized attribute of one child, and the family has the pair
abbrev pub IsThrough : AttributeGrammar → Family → (class : ℕ) → Vertex → Vertex → Type 0
IsThrough g family class (of_child c a) (of_child d b) =
    (c ≡ d) × (g.sort a ≡ inherited) × (g.sort b ≡ synthesized) × family a b
IsThrough g family class (of_child c a) (of_self b) = ⊥
IsThrough g family class (of_self a) y = ⊥

-- an edge from x to y, vertices of a class: y may depend on x, by a read of a rule or through a child's tree
abbrev pub Edge : AttributeGrammar → Family → (prevs : Bool) → (class : ℕ) → Vertex → Vertex → Type 0
Edge g family prevs class x y =
    IsVertex g class x × IsVertex g class y × (IsRead g prevs class x y ⊎ IsThrough g family class x y)

-- an inherited and a synthesized attribute of the class's interface
pub record IsPort (g : AttributeGrammar) (class a b : ℕ) : Type 0 where
  pub known : class < g.class_count
  pub from : Contains (g.shared (g.interface class)) a
  pub from_sort : g.sort a ≡ inherited
  pub to : Contains (g.shared (g.interface class)) b
  pub to_sort : g.sort b ≡ synthesized

-- wherever a walk in a class, by reads of every kind and through children by the family's own pairs, leads from an
-- inherited to a synthesized attribute of its interface, the family has the pair
abbrev pub IsClosed : AttributeGrammar → Family → Type 0
IsClosed g family =
    (class a b : ℕ) → IsPort g class a b → Walk (Edge g family true class) (of_self a) (of_self b) → family a b

-- the family of a test
abbrev pub family_of : (ℕ → ℕ → Bool) → Family
family_of has a b = has a b ≡ true

-- the least closed family: the pairs that each closed family has which a test tells; these are enough, as the pairs
-- that count are finitely many
abbrev pub Dependence : AttributeGrammar → Family
Dependence g a b = (has : ℕ → ℕ → Bool) → IsClosed g (family_of has) → has a b ≡ true

-- the vertex stands for one attribute of one node: it is of the node itself or of a single child
abbrev pub IsOne : AttributeGrammar → (class : ℕ) → Vertex → Type 0
IsOne g class (of_self a) = Unit {0}
IsOne g class (of_child c a) = g.is_list class c ≡ false

-- A walk leads from the vertex back to itself: any walk where the vertex is of one node, or a walk without a read by
-- `prev` in this class (edges through a child stay, whatever is read below). A walk by `prev` that stays among the kids
-- of one list goes on to later kids, so that it closes on no tree; one that leaves them passes a vertex of one node, and
-- that is circular.
abbrev pub IsCircularIn : AttributeGrammar → Family → (class : ℕ) → Vertex → Type 0
IsCircularIn g family class v =
    (IsOne g class v × Walk (Edge g family true class) v v) ⊎ Walk (Edge g family false class) v v

-- no vertex is circular
abbrev pub HasNoCircle : AttributeGrammar → Family → Type 0
HasNoCircle g family =
    (class : ℕ) (v : Vertex) → class < g.class_count → IsVertex g class v → IsCircularIn g family class v → ⊥

-- ---- by the least family

-- the vertex may depend on itself
abbrev pub IsCircular : AttributeGrammar → (class : ℕ) → Vertex → Type 0
IsCircular g class v = IsCircularIn g (Dependence g) class v

-- no vertex of any class is circular
abbrev pub IsNoncircular : AttributeGrammar → Type 0
IsNoncircular g = HasNoCircle g (Dependence g)
