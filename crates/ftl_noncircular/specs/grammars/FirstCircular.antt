-- The first circular vertex: by class, the vertices of the node itself before those of its children in order, and then
-- by attribute.
use Rattle.std.specs.Prelude.{◌≡◌, ◌⊎◌, ℕ, ◌<◌}
use Rattle.ftl_model.specs.layout.AttributeGrammar.{AttributeGrammar}
use Rattle.ftl_noncircular.specs.grammars.Noncircular.{IsCircular, IsNoncircular, IsVertex, Vertex, of_child, of_self}

-- it comes earlier among the vertices of a class
abbrev pub IsEarlierVertex : Vertex → Vertex → Type 0
IsEarlierVertex (of_self a) (of_self b) = a < b
IsEarlierVertex (of_self a) (of_child d b) = Unit {0}
IsEarlierVertex (of_child c a) (of_self b) = ⊥
IsEarlierVertex (of_child c a) (of_child d b) = (c < d) ⊎ ((c ≡ d) × (a < b))

-- it comes earlier among the vertices of all classes
abbrev pub IsEarlier : (class : ℕ) → Vertex → (other : ℕ) → Vertex → Type 0
IsEarlier k v l w = (k < l) ⊎ ((k ≡ l) × IsEarlierVertex v w)

-- the vertex is circular, and none that comes earlier is
pub record IsFirstCircular (g : AttributeGrammar) (class : ℕ) (v : Vertex) : Type 0 where
  pub known : class < g.class_count
  pub vertex : IsVertex g class v
  pub circular : IsCircular g class v
  pub first :
      (k : ℕ) (w : Vertex) → k < g.class_count → IsVertex g k w → IsEarlier k w class v → IsCircular g k w → ⊥

-- no vertex is circular, or there is a first one that is
abbrev pub IsDecided : AttributeGrammar → Type 0
IsDecided g = IsNoncircular g ⊎ ((class : ℕ) × (v : Vertex) × IsFirstCircular g class v)
