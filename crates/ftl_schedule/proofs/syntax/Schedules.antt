-- What the reader of schedules answers, in the words of the syntax.
use Rattle.std.proofs.Common.{◌≡◌, ℕ, ◌-◌, ◌<◌, List, [], ◌∷◌, ◌++◌, length, Option, Some, None, Ok, Err, refl, sym}
use Rattle.std.proofs.Common.{ap, ◌∙◌, subst, append-nil, arith}
use Rattle.ftl_tokens.specs.declared.scanner.kind.Kind.{Kind}
use Rattle.ftl_tokens.specs.scanner.Tokenized.{Tokenized, symbols_of}
use Rattle.ftl_tokens.specs.reading.Reader.{Tokens, ReadResult, next_kind, chain_of, push}
use Rattle.ftl_tokens.specs.reading.Place.{place_of}
use Rattle.ftl_tokens.proofs.reading.KeptPrefix.{Taken, HasPrefix, Grown}
use Rattle.ftl_tokens.proofs.reading.Went.{got}
use Rattle.ftl_tokens.proofs.reading.Places.{Placed, none_spelled, longest_front, is_place}
use Rattle.ftl_tokens.proofs.reading.WholeLists.{ReadsAll, bind_reads_all, end_reads_all, same_value}
use Rattle.ftl_schedule.specs.declared.syntax.types.WrittenStage.{WrittenStage}
use Rattle.ftl_schedule.specs.declared.syntax.types.WrittenSchedule.{WrittenSchedule}
use Rattle.ftl_schedule.specs.syntax.Trees.{written_schedule}
use Rattle.ftl_schedule.specs.syntax.Spelling.{SpellsSchedule}
use Rattle.ftl_schedule.specs.syntax.Reading.{stage, more_stage, stages, schedule_by, schedule}
use Rattle.ftl_schedule.specs.syntax.Read.{IsNoSchedule}
use Rattle.ftl_schedule.proofs.syntax.SchedulePrefix.{schedule_prefix}
use Rattle.ftl_schedule.proofs.syntax.Went.{no_peak, schedule_went}
use Rattle.ftl_schedule.proofs.syntax.OneAhead.{schedule_alike}

-- no tokens spell two schedules
pub one_written_schedule : (tokens : Tokens) (s t : WrittenSchedule) → SpellsSchedule tokens s
    → SpellsSchedule tokens t → s ≡ t
one_written_schedule tokens s t a b = same_value (schedule_went a).reads (schedule_went b).reads

-- ---- what the reader answers

pub stages_read_all : ReadsAll stages
unfolding stages
stages_read_all =
    bind_reads_all stage
    (λ x. bind_reads_all (chain_of push more_stage (x ∷ [])) (λ (xs : List WrittenStage). end_reads_all (written_schedule xs)))

-- no token comes next in an empty list alone
pub none_next : (ts : Tokens) → next_kind ts ≡ None → ts ≡ []
unfolding next_kind
none_next [] e = refl
none_next (t ∷ ts) e = cc

-- by the kind of the first token
pub read_by : (k : Option Kind) (tokens left : Tokens) (s : WrittenSchedule) → next_kind tokens ≡ k
    → schedule_by k tokens ≡ got s left → left ≡ []
read_by None tokens left s e read =
    let same : tokens ≡ left = ap rest_left read in sym same ∙ none_next tokens e
  where
    rest_left : ReadResult WrittenSchedule → Tokens
    rest_left (Ok p) = p.1
    rest_left (Err rest) = rest
read_by (Some k) tokens left s e read = stages_read_all.none_left tokens left s read

-- what is read is spelled
pub is_spelled : (tokens left : Tokens) (s : WrittenSchedule) → schedule tokens ≡ Ok (s, left)
    → SpellsSchedule tokens s
unfolding schedule
is_spelled tokens left s e =
    let none_left = read_by (next_kind tokens) tokens left s refl e in
    let taken : Taken SpellsSchedule tokens s left =
    subst (λ o. HasPrefix SpellsSchedule o tokens) e (schedule_prefix.keeps tokens) in
    let whole : tokens ≡ taken.front = taken.split ∙ ap (λ l. taken.front ++ l) none_left ∙ append-nil taken.front in
    subst (λ l. SpellsSchedule l s) (sym whole) taken.spells

-- the reader looks one token ahead, and reads all that is spelled
pub placed : Placed SpellsSchedule no_peak 1 1 schedule (λ k. schedule)
placed = record { alike = λ k. schedule_alike; reads = λ spells k few. (schedule_went spells).reads }

pub few : (ts : Tokens) → no_peak ts < 1
few ts = omega arith

-- where the reader refuses a token, no schedule is spelled, and the tokens go wrong there
pub is_no_schedule : (scanned : Tokenized) (rest : Tokens) (left at : ℕ) → schedule (symbols_of scanned) ≡ Err rest
    → left ≡ length rest → at ≡ place_of scanned.tokens (length scanned.tokens - left) → IsNoSchedule scanned at
is_no_schedule scanned rest left at e count place =
    let tokens = symbols_of scanned in
    let grown : Grown SpellsSchedule tokens rest =
    subst (λ o. HasPrefix SpellsSchedule o tokens) e (schedule_prefix.keeps tokens) in
    record {
      none = λ s spells. none_spelled placed tokens rest s (few tokens) e grown spells;
      place = is_place rest (longest_front placed tokens rest (few tokens) e grown) left count place;
    }
