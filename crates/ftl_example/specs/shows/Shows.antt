-- A tree shows a pair of a read and a writer: the reader is the rule of one of its instances, the writer that of another
-- or of the same, and the read is of it.
use Rattle.std.specs.Prelude.{◌≡◌, ℕ, zero, suc, List, [], ◌∷◌, Contains}
use Rattle.std.specs.List.{range_with_len}
use Rattle.ftl_model.specs.layout.Tree.{Forest}
use Rattle.ftl_model.specs.layout.Path.{Path, kids_at}
use Rattle.ftl_model.specs.layout.AttributeGrammar.{AttributeGrammar, Occurrence, Part, Parts, Read, first_part, first_then, fold_over}
use Rattle.ftl_model.specs.layout.AttributeGrammar.{from_part, occurrences, plain, plain_part, then_part, with_part}
use Rattle.ftl_model.specs.layout.Solves.{Instance, rule_named, seen_from}
use Rattle.ftl_order.specs.orders.LegalOrder.{IsStep, turn_of}
use Rattle.ftl_order.specs.orders.Pairs.{Pair}
use Rattle.ftl_order.specs.orders.ReadPairs.{rule_of_step}

-- the kids that come to hand in this part of a rule, for the kid of this number
abbrev pub at_hand : Parts → Part → (kids : ℕ → ℕ) → (number : ℕ) → List ℕ
at_hand (plain reads) plain_part kids k = k ∷ []
at_hand (first_then first later) first_part kids zero = 0 ∷ []
at_hand (first_then first later) then_part kids (suc k) = suc k ∷ []
at_hand (fold_over c start step) from_part kids k = k ∷ []
at_hand (fold_over c start step) with_part kids k = range_with_len 0 (kids c)
at_hand _ _ _ _ = []

-- a read in a part of a rule that runs at node p for this kid is of instance j
abbrev pub ReadIs : Forest → Parts → Part → Path → (number : ℕ) → Read → Instance → Type 0
ReadIs t parts part p k read j =
    (n : ℕ) × Contains (at_hand parts part (kids_at t p) k) n
    × ((o : Occurrence) × Contains (occurrences (kids_at t p) n read) o × (j ≡ seen_from p o))

-- the tree shows the pair with these instances
pub record Shows (g : AttributeGrammar) (t : Forest) (pair : Pair) (r w : Instance) : Type 0 where
  pub reader_there : IsStep g t r
  pub writer_there : IsStep g t w
  pub reader : rule_of_step g t r ≡ pair.reader
  pub writer : rule_of_step g t w ≡ pair.writer
  pub read :
      ReadIs t (rule_named g pair.reader).parts pair.part (turn_of g r).visit (turn_of g r).kid pair.read w
