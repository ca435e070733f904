-- Examples of a pair under a schedule with nests: a least tree that shows it, with a legal order in which the reader does
-- not stand after the writer.
use Rattle.std.specs.Prelude.{◌≡◌, ℕ, ◌<◌, ◌≤◌, List, map, Option, None, Some}
use Rattle.ftl_model.specs.lists.Lists.{StandsBefore}
use Rattle.ftl_model.specs.layout.AttributeGrammar.{AttributeGrammar}
use Rattle.ftl_model.specs.layout.Solves.{Instance}
use Rattle.ftl_model.specs.layout.Table.{instance_number}
use Rattle.ftl_model.specs.layout.Tree.{Forest, size}
use Rattle.ftl_model.specs.layout.TreeOf.{IsTreeOf}
use Rattle.ftl_order.specs.orders.Lawful.{IsLawful}
use Rattle.ftl_order.specs.orders.Pairs.{IsPair, Pair}
use Rattle.ftl_order.specs.orders.Schedule.{EachStandsOnce}
use Rattle.ftl_example.specs.shows.Bare.{IsBare}
use Rattle.ftl_example.specs.shows.Examples.{AllAreLarger, NoneShows, ShowsPair}
use Rattle.ftl_example.specs.shows.Shows.{Shows}
use Rattle.ftl_example.specs.sizes.Place.{example_size}
use Rattle.ftl_nests.specs.Hosted.{MustPrecedeWithNests}
use Rattle.ftl_nests.specs.NestLaws.{IsLegalWithNests}
use Rattle.ftl_nests.specs.Nests.{AreSidesKept, NestingSchedule, nest_placing_of, outer_schedule}
use Rattle.ftl_example.specs.nests.pairs.NestPair.{IsNestOrderedPair}

pub record IsNestExample (g : AttributeGrammar) (s : NestingSchedule) (pair : Pair) (t : Forest) (r w : Instance)
    (order : List Instance) : Type 0 where
  pub tree : IsTreeOf g t
  pub bare : IsBare g t
  pub shows : Shows g t pair r w
  pub fewest : (u : Forest) → ShowsPair g pair u → size t ≤ size u
  pub legal : IsLegalWithNests g s t order
  pub wrong : StandsBefore order w r → ⊥

-- an example of a pair, its instances by number
pub record IsNumberedNestExample (g : AttributeGrammar) (s : NestingSchedule) (pair : Pair) (t : Forest)
    (reader writer : ℕ) (order : List ℕ) : Type 0 where
  pub reading : Instance
  pub written : Instance
  pub steps : List Instance
  pub is : IsNestExample g s pair t reading written steps
  pub reader_is : reader ≡ instance_number g t reading
  pub writer_is : writer ≡ instance_number g t written
  pub order_is : order ≡ map (instance_number g t) steps

-- an example of at most so many nodes
abbrev pub HasNestExample : AttributeGrammar → NestingSchedule → Pair → (most : ℕ) → Type 0
HasNestExample g s pair most =
    (t : Forest) × (r w : Instance) × (order : List Instance) × IsNestExample g s pair t r w order × (size t ≤ most)

-- what a size of trees says: none, within the limit, or beyond it
abbrev pub NestSizeSays : AttributeGrammar → NestingSchedule → Pair → (most : ℕ) → Option ℕ → Type 0
NestSizeSays g s pair most None = NoneShows g pair
NestSizeSays g s pair most (Some n) =
    (n ≤ most → HasNestExample g s pair most) × (most < n → AllAreLarger g pair most)

-- the least size of trees that show a pair that is not ordered says which it is
abbrev pub NestExamplesBySize : Type 0
NestExamplesBySize =
    (g : AttributeGrammar) (s : NestingSchedule) (pair : Pair) (most : ℕ) → IsLawful g
    → EachStandsOnce g (outer_schedule s) → AreSidesKept g s → IsPair g pair
    → (IsNestOrderedPair g (nest_placing_of s) pair → ⊥) → NestSizeSays g s pair most (example_size g pair)

-- where the writer of a shown read must precede the reader, the pair is ordered
abbrev pub PrecedingIsOrderedWithNests : Type 0
PrecedingIsOrderedWithNests =
    (g : AttributeGrammar) (s : NestingSchedule) (t : Forest) (pair : Pair) (r w : Instance)
    → IsLawful g → IsTreeOf g t → IsPair g pair → Shows g t pair r w
    → MustPrecedeWithNests g t (nest_placing_of s) w r → IsNestOrderedPair g (nest_placing_of s) pair
