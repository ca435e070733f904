-- The pair of the first fault of a schedule whose first fault is a pair: its reader, the part and the read, the writer.
use Rattle.std.specs.Prelude.{◌≡◌, ℕ, ◌<◌, List, ◌++◌, map, slice_index_or, Some, None}
use Rattle.ftl_model.specs.layout.AttributeGrammar.{AttributeGrammar, Part, Parts, Read, first_part, first_then, fold_over, for_self}
use Rattle.ftl_model.specs.layout.AttributeGrammar.{from_part, plain, plain_part, self_read, then_part, with_part}
use Rattle.ftl_model.specs.layout.Solves.{rule_named}
use Rattle.ftl_order.specs.orders.Lawful.{IsLawful}
use Rattle.ftl_order.specs.orders.Ordered.{IsOrderedPair}
use Rattle.ftl_order.specs.orders.Pairs.{IsPair, Pair}
use Rattle.ftl_order.specs.orders.Schedule.{Placing}
use Rattle.ftl_order.specs.dependencies.DepReads.{dep_read}
use Rattle.ftl_order.specs.faults.FirstFault.{first_unordered, unordered_writer}
use Rattle.ftl_order.specs.declared.faults.fault.VerifyFault.TheVariants.{Unordered}

-- the reads of all parts of a rule, in the order of the text, each with its part
abbrev pub placed : Parts → List (Part × Read)
placed (plain reads) = map (λ r. (plain_part, r)) reads
placed (first_then first later) = map (λ r. (first_part, r)) first ++ map (λ r. (then_part, r)) later
placed (fold_over child start step) = map (λ r. (from_part, r)) start ++ map (λ r. (with_part, r)) step

-- the read at this place, and its part
abbrev pub placed_at : Parts → ℕ → Part × Read
placed_at x j = slice_index_or (placed x) j (plain_part, self_read 0)

-- this is the pair of the fault with these rules by number: the reader's first read that is not ordered
pub record IsPairOf (g : AttributeGrammar) (at : Placing) (reader writer : ℕ) (pair : Pair) : Type 0 where
  pub reader_is : pair.reader ≡ slice_index_or g.rules reader (for_self 0 0)
  pub writer_is : pair.writer ≡ slice_index_or g.rules writer (for_self 0 0)
  pub is : IsPair g pair
  pub unordered : IsOrderedPair g at pair → ⊥
  pub place : ℕ
  pub there : placed_at (rule_named g pair.reader).parts place ≡ (pair.part, pair.read)
  pub first :
      (j : ℕ) → j < place
      → unordered_writer g at pair.reader (dep_read g (placed_at (rule_named g pair.reader).parts j).1) ≡ None

abbrev pub FaultsHavePairs : Type 0
FaultsHavePairs =
    (g : AttributeGrammar) (at : Placing) (reader writer : ℕ) → IsLawful g
    → first_unordered g at ≡ Some (Unordered reader writer) → (pair : Pair) × IsPairOf g at reader writer pair
