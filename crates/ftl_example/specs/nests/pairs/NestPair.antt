-- The pair of the first fault of a schedule with nests whose first fault is a pair.
use Rattle.std.specs.Prelude.{◌≡◌, ℕ, ◌<◌, slice_index_or, Some, None}
use Rattle.ftl_model.specs.layout.AttributeGrammar.{AttributeGrammar, for_self}
use Rattle.ftl_model.specs.layout.Solves.{rule_named}
use Rattle.ftl_order.specs.declared.faults.fault.VerifyFault.TheVariants.{Unordered}
use Rattle.ftl_order.specs.dependencies.DepReads.{dep_read}
use Rattle.ftl_order.specs.orders.Lawful.{IsLawful}
use Rattle.ftl_order.specs.orders.Ordered.{visit_place}
use Rattle.ftl_order.specs.orders.Pairs.{IsPair, Pair}
use Rattle.ftl_example.specs.pairs.FirstPair.{placed_at}
use Rattle.ftl_nests.specs.Nests.{IsNestOrderedRead, NestPlacing, NestingSchedule, nest_placing_of}
use Rattle.ftl_regions.specs.pairs.NestReads.{first_refused, refused_writer}
use Rattle.ftl_nest_check.specs.check.NestFault.{first_nest_fault}

-- the schedule has the pair's writer earlier than its reader
abbrev pub IsNestOrderedPair : AttributeGrammar → NestPlacing → Pair → Type 0
IsNestOrderedPair g at pair =
    IsNestOrderedRead at pair.runs_at pair.read (visit_place g pair.writer) (visit_place g pair.reader)

-- this is the pair of the fault with these rules by number: the reader's first read that is not ordered
pub record IsNestPairOf (g : AttributeGrammar) (at : NestPlacing) (reader writer : ℕ) (pair : Pair) : Type 0 where
  pub reader_is : pair.reader ≡ slice_index_or g.rules reader (for_self 0 0)
  pub writer_is : pair.writer ≡ slice_index_or g.rules writer (for_self 0 0)
  pub is : IsPair g pair
  pub unordered : IsNestOrderedPair g at pair → ⊥
  pub place : ℕ
  pub there : placed_at (rule_named g pair.reader).parts place ≡ (pair.part, pair.read)
  pub first :
      (j : ℕ) → j < place
      → refused_writer g at pair.reader (dep_read g (placed_at (rule_named g pair.reader).parts j).1) ≡ None

abbrev pub NestFaultsHavePairs : Type 0
NestFaultsHavePairs =
    (g : AttributeGrammar) (at : NestPlacing) (reader writer : ℕ) → IsLawful g
    → first_refused g at ≡ Some (Unordered reader writer) → (pair : Pair) × IsNestPairOf g at reader writer pair

-- the pair of a schedule's first fault
abbrev pub IsNestFaultPair : AttributeGrammar → NestingSchedule → Pair → Type 0
IsNestFaultPair g s pair =
    (reader writer : ℕ) × (first_nest_fault g s ≡ Some (Unordered reader writer))
    × IsNestPairOf g (nest_placing_of s) reader writer pair

-- there is only one
abbrev pub NestFaultPairsAreOne : Type 0
NestFaultPairsAreOne =
    (g : AttributeGrammar) (s : NestingSchedule) (x y : Pair) → IsLawful g → IsNestFaultPair g s x
    → IsNestFaultPair g s y → x ≡ y
