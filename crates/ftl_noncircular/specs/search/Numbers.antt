-- The vertices of a class by number: those of the node itself below 128, then 64 for each child.
use Rattle.std.specs.Prelude.{◌≡◌, ℕ, ◌+◌, ◌*◌, ◌<◌, List, slice_index}
use Rattle.ftl_model.specs.layout.AttributeGrammar.{AttributeGrammar}
use Rattle.ftl_order.specs.orders.Lawful.{OfClass}
use Rattle.std.specs.Prelude.{Contains}
use Rattle.ftl_noncircular.specs.grammars.Noncircular.{Vertex, of_child, of_self}

-- by the place of each attribute among those of its owner
abbrev pub number : (places : List ℕ) → Vertex → ℕ
number places (of_self a) = slice_index places a
number places (of_child c a) = 128 + (64 * c + slice_index places a)

-- the places tell the attributes of a class, and of an interface, apart
pub record ArePlaces (g : AttributeGrammar) (places : List ℕ) : Type 0 where
  pub self_low : (k a : ℕ) → k < g.class_count → OfClass g k a → slice_index places a < 128
  pub self_once :
      (k a b : ℕ) → k < g.class_count → OfClass g k a → OfClass g k b
      → slice_index places a ≡ slice_index places b → a ≡ b
  pub child_low : (i a : ℕ) → i < g.interface_count → Contains (g.shared i) a → slice_index places a < 64
  pub child_once :
      (i a b : ℕ) → i < g.interface_count → Contains (g.shared i) a → Contains (g.shared i) b
      → slice_index places a ≡ slice_index places b → a ≡ b

-- how many numbers there are
abbrev pub vertex_count : AttributeGrammar → (class : ℕ) → ℕ
vertex_count g k = 128 + 64 * g.child_count k
