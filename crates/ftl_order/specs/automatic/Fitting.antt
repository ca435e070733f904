-- Lists of attributes for the next pass of a kind, once some attributes are done: those that fit, those of the largest
-- set, and the least of these.
use Rattle.std.specs.Prelude.{◌≡◌, ◌≢◌, ◌⊎◌, ℕ, ◌<◌, if◌then◌else◌, List, Contains}
use Rattle.ftl_model.specs.lists.Lists.{AreDistinct, Before, is_listed, place_in}
use Rattle.ftl_model.specs.layout.AttributeGrammar.{AttributeGrammar, input}
use Rattle.ftl_order.specs.orders.Ordered.{IsOrderedPair, visit_place}
use Rattle.ftl_order.specs.orders.Pairs.{IsPair, Pair}
use Rattle.ftl_order.specs.orders.Schedule.{PassKind, Placing}

-- an attribute that rules compute
abbrev pub IsComputed : AttributeGrammar → ℕ → Type 0
IsComputed g a = (a < g.attribute_count) × (g.sort a ≢ input)

-- the attribute that the writer of a pair defines
abbrev pub written : AttributeGrammar → Pair → ℕ
written g pair = (visit_place g pair.writer).attribute

-- the attribute that the reader of a pair defines
abbrev pub defined_by_reader : AttributeGrammar → Pair → ℕ
defined_by_reader g pair = (visit_place g pair.reader).attribute

-- what is done stands in earlier stages, the list in the next one, and all else later
abbrev pub stage_after : (done list : List ℕ) → ℕ → ℕ
stage_after done list a = if is_listed done a then 0 else (if is_listed list a then 1 else 2)

-- the list is the only pass of its stage, and of this kind
abbrev pub placing_after : (done : List ℕ) → PassKind → (list : List ℕ) → Placing
placing_after done kind list a =
    record { stage = stage_after done list a; pass = 0; kind = kind; index = place_in list a }

-- A list fits a kind and what is done: its attributes are distinct, computed and not done, and each pair whose reader
-- defines one of them is ordered where the list is the only pass of its stage and what is done stands in earlier ones.
pub record Fits (g : AttributeGrammar) (kind : PassKind) (done list : List ℕ) : Type 0 where
  pub distinct : AreDistinct list
  pub computed : (a : ℕ) → Contains list a → IsComputed g a
  pub not_done : (a : ℕ) → Contains list a → Contains done a → ⊥
  pub ordered :
      (pair : Pair) → IsPair g pair → Contains list (defined_by_reader g pair)
      → IsOrderedPair g (placing_after done kind list) pair

-- a list that has each entry of another
abbrev pub HasAll : (list other : List ℕ) → Type 0
HasAll list other = (a : ℕ) → Contains other a → Contains list a

-- the same, or less at the first difference
abbrev pub IsAtMost : (list other : List ℕ) → Type 0
IsAtMost list other = (list ≡ other) ⊎ Before list other

-- The list of a kind after what is done: it fits, its set is the largest of those that fit, and of the lists of that
-- set that fit it is the least.
pub record IsListOf (g : AttributeGrammar) (kind : PassKind) (done list : List ℕ) : Type 0 where
  pub fits : Fits g kind done list
  pub largest : (other : List ℕ) → Fits g kind done other → HasAll list other
  pub least : (other : List ℕ) → Fits g kind done other → HasAll other list → IsAtMost list other
