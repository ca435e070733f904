-- What the reader of schedules with nests answers, in the words of the syntax.
use Rattle.std.proofs.Common.{◌≡◌, ℕ, ◌-◌, List, [], ◌∷◌, ◌++◌, length, Option, Some, None, Ok, Err, refl, sym, ap, ◌∙◌}
use Rattle.std.proofs.Common.{subst, append-nil}
use Rattle.ftl_tokens.specs.declared.scanner.kind.Kind.{Kind}
use Rattle.ftl_tokens.specs.scanner.Tokenized.{Tokenized, symbols_of}
use Rattle.ftl_tokens.specs.reading.Reader.{Tokens, next_kind, chain_of, push}
use Rattle.ftl_tokens.specs.reading.Place.{place_of}
use Rattle.ftl_tokens.proofs.reading.Alike.{left}
use Rattle.ftl_tokens.proofs.reading.KeptPrefix.{Taken, HasPrefix, Grown}
use Rattle.ftl_tokens.proofs.reading.Went.{got}
use Rattle.ftl_tokens.proofs.reading.Places.{Placed, none_spelled, longest_front, is_place}
use Rattle.ftl_tokens.proofs.reading.WholeLists.{ReadsAll, bind_reads_all, end_reads_all, same_value}
use Rattle.ftl_schedule.proofs.syntax.Went.{no_peak}
use Rattle.ftl_schedule.proofs.syntax.Schedules.{none_next, few}
use Rattle.ftl_nest_text.specs.declared.syntax.types.WrittenNestingStage.{WrittenNestingStage}
use Rattle.ftl_nest_text.specs.declared.syntax.types.WrittenNestingSchedule.{WrittenNestingSchedule}
use Rattle.ftl_nest_text.specs.syntax.NestTrees as tree
use Rattle.ftl_nest_text.specs.syntax.NestSpelling.{SpellsNestingSchedule}
use Rattle.ftl_nest_text.specs.syntax.NestReading.{nesting_stage, more_nesting_stage, nesting_stages}
use Rattle.ftl_nest_text.specs.syntax.NestReading.{nesting_schedule_by, nesting_schedule}
use Rattle.ftl_nest_text.specs.syntax.NestRead.{IsNoNestingSchedule}
use Rattle.ftl_nest_text.proofs.syntax.NestPrefix.{nesting_schedule_prefix}
use Rattle.ftl_nest_text.proofs.syntax.NestWent.{nesting_schedule_went}
use Rattle.ftl_nest_text.proofs.syntax.NestAhead.{nesting_schedule_alike}

-- no tokens spell two schedules
pub one_schedule : (tokens : Tokens) (s t : WrittenNestingSchedule) → SpellsNestingSchedule tokens s
    → SpellsNestingSchedule tokens t → s ≡ t
one_schedule tokens s t a b = same_value (nesting_schedule_went a).reads (nesting_schedule_went b).reads

-- tokens that the reader refuses spell none
pub refused : (tokens rest : Tokens) → nesting_schedule tokens ≡ Err rest → (s : WrittenNestingSchedule)
    → SpellsNestingSchedule tokens s → ⊥
refused tokens rest e s spells = let read = (nesting_schedule_went spells).reads in cc

-- ---- what the reader answers

nesting_stages_read_all : ReadsAll nesting_stages
unfolding nesting_stages
nesting_stages_read_all =
    bind_reads_all nesting_stage
    (λ x. bind_reads_all (chain_of push more_nesting_stage (x ∷ []))
    (λ (xs : List WrittenNestingStage). end_reads_all (tree.nesting_schedule xs)))

-- by the kind of the first token
read_by : (k : Option Kind) (tokens rest : Tokens) (s : WrittenNestingSchedule) → next_kind tokens ≡ k
    → nesting_schedule_by k tokens ≡ got s rest → rest ≡ []
read_by None tokens rest s e read = let same : tokens ≡ rest = ap left read in sym same ∙ none_next tokens e
read_by (Some k) tokens rest s e read = nesting_stages_read_all.none_left tokens rest s read

-- what is read is spelled
pub is_spelled : (tokens rest : Tokens) (s : WrittenNestingSchedule) → nesting_schedule tokens ≡ Ok (s, rest)
    → SpellsNestingSchedule tokens s
unfolding nesting_schedule
is_spelled tokens rest s e =
    let none_left = read_by (next_kind tokens) tokens rest s refl e in
    let taken : Taken SpellsNestingSchedule tokens s rest =
    subst (λ o. HasPrefix SpellsNestingSchedule o tokens) e (nesting_schedule_prefix.keeps tokens) in
    let whole : tokens ≡ taken.front = taken.split ∙ ap (λ l. taken.front ++ l) none_left ∙ append-nil taken.front in
    subst (λ l. SpellsNestingSchedule l s) (sym whole) taken.spells

-- the reader looks one token ahead, and reads all that is spelled
placed : Placed SpellsNestingSchedule no_peak 1 1 nesting_schedule (λ k. nesting_schedule)
placed = record {
  alike = λ k. nesting_schedule_alike;
  reads = λ spells k small. (nesting_schedule_went spells).reads;
}

-- where the reader refuses a token, no schedule is spelled, and the tokens go wrong there
pub is_no_schedule : (scanned : Tokenized) (rest : Tokens) (count at : ℕ)
    → nesting_schedule (symbols_of scanned) ≡ Err rest → count ≡ length rest
    → at ≡ place_of scanned.tokens (length scanned.tokens - count) → IsNoNestingSchedule scanned at
is_no_schedule scanned rest count at e counts place =
    let tokens = symbols_of scanned in
    let grown : Grown SpellsNestingSchedule tokens rest =
    subst (λ o. HasPrefix SpellsNestingSchedule o tokens) e (nesting_schedule_prefix.keeps tokens) in
    record {
      none = λ s spells. none_spelled placed tokens rest s (few tokens) e grown spells;
      place = is_place rest (longest_front placed tokens rest (few tokens) e grown) count counts place;
    }
