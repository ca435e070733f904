-- What follows of a lawful grammar: who declares an attribute, and which values a table has.
use Rattle.std.specs.Prelude.{◌≡◌, ℕ, ◌<◌}
use Rattle.ftl_model.specs.lists.Lists.{AreDistinct}
use Rattle.ftl_model.specs.layout.AttributeGrammar.{AttributeGrammar, attributes_of}
use Rattle.ftl_model.specs.layout.Solves.{Instance, IsInstance, Solves}
use Rattle.ftl_model.specs.layout.Tree.{Forest}
use Rattle.ftl_model.specs.layout.TreeOf.{IsTreeOf}
use Rattle.ftl_model.specs.layout.Values.{Value, IsValueIn}
use Rattle.ftl_order.specs.orders.Lawful.{IsLawful, Owner, Owns}
use Rattle.ftl_order.specs.orders.Reads.{ReadsEnd}

-- of each lawful grammar
abbrev pub OfLawful : (AttributeGrammar → Type 0) → Type 0
OfLawful P = (g : AttributeGrammar) → IsLawful g → P g

-- an attribute that an interface or a class declares is a number below the count
abbrev pub AttributesAreKnown : AttributeGrammar → Type 0
AttributesAreKnown g = (x : Owner) (a : ℕ) → Owns g x a → a < g.attribute_count

-- each number below the count is an attribute that someone declares
abbrev pub AttributesAreOwned : AttributeGrammar → Type 0
AttributesAreOwned g = (a : ℕ) → a < g.attribute_count → (x : Owner) × Owns g x a

-- and no two do
abbrev pub OwnersAreOne : AttributeGrammar → Type 0
OwnersAreOne g = (x y : Owner) (a : ℕ) → Owns g x a → Owns g y a → x ≡ y

-- no class has an attribute twice
abbrev pub ClassesAreDistinct : AttributeGrammar → Type 0
ClassesAreDistinct g = (k : ℕ) → k < g.class_count → AreDistinct (attributes_of g k)

-- a table that solves has values in the range of the width, where chains of reads end
abbrev pub TablesAreInRange : AttributeGrammar → Type 0
TablesAreInRange g =
    (t : Forest) → IsTreeOf g t → (number : Instance → ℕ) → ReadsEnd g t number
    → (s : Instance → Value) → Solves g t s → (i : Instance) → IsInstance g t i → IsValueIn g.greatest (s i)
