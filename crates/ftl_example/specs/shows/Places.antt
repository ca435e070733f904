-- The least trees of a grammar that have a node of some kind.
use Rattle.std.specs.Prelude.{◌≡◌, ℕ, Option, Some}
use Rattle.ftl_model.specs.layout.Tree.{Forest, size, below_of}
use Rattle.ftl_model.specs.layout.Path.{Path, at, Has, class_at}
use Rattle.ftl_model.specs.layout.AttributeGrammar.{AttributeGrammar}
use Rattle.ftl_model.specs.layout.TreeOf.{IsTreeOf}
use Rattle.ftl_example.specs.shows.Bare.{IsBare}
use Rattle.ftl_example.specs.sizes.Least.{least}
use Rattle.ftl_example.specs.sizes.Reach.{reach, IsAtMost}

abbrev pub HasPlace : (ℕ → Forest → Type 0) → Forest → Type 0
HasPlace P t = (p : Path) × Has t p × P (class_at t p) (below_of (at t p))

-- by as many rounds as interfaces: no tree of the grammar with a node that is P has fewer nodes, from the least sizes of
-- such nodes with what stands below them
abbrev pub NoFewerTrees : AttributeGrammar → (ℕ → Forest → Type 0) → (ℕ → Option ℕ) → ℕ → Type 0
NoFewerTrees g P start count =
    (t : Forest) → IsTreeOf g t → HasPlace P t → IsAtMost (reach g (least g count) start count g.root) (size t)

-- and one with all inputs 0 has so many
abbrev pub SomeTreeSo : AttributeGrammar → (ℕ → Forest → Type 0) → (ℕ → Option ℕ) → ℕ → Type 0
SomeTreeSo g P start count =
    (n : ℕ) → reach g (least g count) start count g.root ≡ Some n
    → (t : Forest) × IsTreeOf g t × IsBare g t × HasPlace P t × (size t ≡ n)
