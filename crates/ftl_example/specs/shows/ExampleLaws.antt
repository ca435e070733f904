-- What an unordered pair comes to: an example of it, unless no tree shows it or each tree that does is too large.
use Rattle.std.specs.Prelude.{◌≡◌, ℕ, Some}
use Rattle.ftl_model.specs.layout.Tree.{Forest, size}
use Rattle.ftl_model.specs.layout.TreeOf.{IsTreeOf}
use Rattle.ftl_model.specs.layout.AttributeGrammar.{AttributeGrammar}
use Rattle.ftl_model.specs.layout.Solves.{Instance}
use Rattle.ftl_order.specs.orders.Lawful.{IsLawful}
use Rattle.ftl_order.specs.orders.LegalOrder.{MustPrecede}
use Rattle.ftl_order.specs.orders.Ordered.{IsOrderedPair}
use Rattle.ftl_order.specs.orders.Pairs.{IsPair, Pair}
use Rattle.ftl_order.specs.orders.Reads.{Reads}
use Rattle.ftl_order.specs.orders.Schedule.{Schedule, placing_of}
use Rattle.ftl_example.specs.shows.Bare.{IsBare}
use Rattle.ftl_example.specs.shows.Examples.{ShowsPair, SizeSays}
use Rattle.ftl_example.specs.sizes.Least.{CountedUpTo, RoundsGiveLeast}
use Rattle.ftl_example.specs.sizes.Place.{example_size}
use Rattle.ftl_example.specs.sizes.Reach.{IsAtMost}
use Rattle.ftl_example.specs.shows.Shows.{Shows}

abbrev pub LeastByRounds : Type 0
LeastByRounds = (g : AttributeGrammar) → RoundsGiveLeast g

abbrev pub LeastUpTo : Type 0
LeastUpTo = (g : AttributeGrammar) → CountedUpTo g

-- what is shown is read
abbrev pub ShownIsRead : Type 0
ShownIsRead =
    (g : AttributeGrammar) (t : Forest) (pair : Pair) (r w : Instance)
    → IsPair g pair → Shows g t pair r w → Reads g t r w

-- no tree that shows the pair has fewer nodes
abbrev pub NoneIsSmaller : Type 0
NoneIsSmaller =
    (g : AttributeGrammar) (pair : Pair) → IsLawful g → IsPair g pair
    → (t : Forest) → ShowsPair g pair t → IsAtMost (example_size g pair) (size t)

-- and some tree with all inputs 0 that shows it has so many
abbrev pub SomeIsSo : Type 0
SomeIsSo =
    (g : AttributeGrammar) (pair : Pair) → IsLawful g → IsPair g pair
    → (n : ℕ) → example_size g pair ≡ Some n
    → (t : Forest) × IsTreeOf g t × IsBare g t × ((r w : Instance) × Shows g t pair r w) × (size t ≡ n)

-- where the writer of a shown read must precede the reader, the pair is ordered
abbrev pub PrecedingIsOrdered : Type 0
PrecedingIsOrdered =
    (g : AttributeGrammar) (s : Schedule) (t : Forest) (pair : Pair) (r w : Instance)
    → IsLawful g → IsTreeOf g t → IsPair g pair → Shows g t pair r w → MustPrecede g t s w r
    → IsOrderedPair g (placing_of s) pair

-- the size says which it is
abbrev pub ExamplesBySize : Type 0
ExamplesBySize =
    (g : AttributeGrammar) (s : Schedule) (pair : Pair) (most : ℕ) → IsLawful g → IsPair g pair
    → (IsOrderedPair g (placing_of s) pair → ⊥) → SizeSays g s pair most (example_size g pair)
