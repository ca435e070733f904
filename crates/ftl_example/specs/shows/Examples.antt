-- Examples of a pair: a least tree that shows it, with a legal order in which the reader does not stand after the writer.
use Rattle.std.specs.Prelude.{ℕ, ◌<◌, ◌≤◌, Option, None, Some, List}
use Rattle.ftl_model.specs.lists.Lists.{StandsBefore}
use Rattle.ftl_model.specs.layout.Tree.{Forest, size}
use Rattle.ftl_model.specs.layout.TreeOf.{IsTreeOf}
use Rattle.ftl_model.specs.layout.AttributeGrammar.{AttributeGrammar}
use Rattle.ftl_model.specs.layout.Solves.{Instance}
use Rattle.ftl_order.specs.orders.LegalOrder.{IsLegalOrder}
use Rattle.ftl_order.specs.orders.Pairs.{Pair}
use Rattle.ftl_order.specs.orders.Schedule.{Schedule}
use Rattle.ftl_example.specs.shows.Bare.{IsBare}
use Rattle.ftl_example.specs.shows.Shows.{Shows}

-- some instances of the tree
abbrev pub ShowsPair : AttributeGrammar → Pair → Forest → Type 0
ShowsPair g pair t = IsTreeOf g t × ((r w : Instance) × Shows g t pair r w)

-- no tree of the grammar does
abbrev pub NoneShows : AttributeGrammar → Pair → Type 0
NoneShows g pair = (t : Forest) → ShowsPair g pair t → ⊥

-- some tree does, and each that does has more nodes
abbrev pub AllAreLarger : AttributeGrammar → Pair → (most : ℕ) → Type 0
AllAreLarger g pair most =
    ((t : Forest) × ShowsPair g pair t) × ((t : Forest) → ShowsPair g pair t → most < size t)

pub record IsExample (g : AttributeGrammar) (s : Schedule) (pair : Pair) (t : Forest) (r w : Instance)
    (order : List Instance) : Type 0 where
  pub tree : IsTreeOf g t
  pub bare : IsBare g t
  pub shows : Shows g t pair r w
  pub fewest : (u : Forest) → ShowsPair g pair u → size t ≤ size u
  pub legal : IsLegalOrder g t s order
  pub wrong : StandsBefore order w r → ⊥

-- an example of at most so many nodes
abbrev pub HasExample : AttributeGrammar → Schedule → Pair → (most : ℕ) → Type 0
HasExample g s pair most =
    (t : Forest) × (r w : Instance) × (order : List Instance) × IsExample g s pair t r w order × (size t ≤ most)

-- what a size of trees says: none, within the limit, or beyond it
abbrev pub SizeSays : AttributeGrammar → Schedule → Pair → (most : ℕ) → Option ℕ → Type 0
SizeSays g s pair most None = NoneShows g pair
SizeSays g s pair most (Some n) =
    (n ≤ most → HasExample g s pair most) × (most < n → AllAreLarger g pair most)
