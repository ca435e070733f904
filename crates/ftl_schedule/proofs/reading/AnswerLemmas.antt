-- Each text has one answer by a grammar, and no first fault is want of memory.
use Rattle.std.proofs.Common.{◌≡◌, ◌≢◌, inl, inr, refl, sym, ap, ◌∙◌, ℕ, ◌+◌, ◌-◌, nat_lt, List, [], ◌∷◌, length}
use Rattle.std.proofs.Common.{Option, Some, None, Result, Ok, Err}
use Rattle.ftl_tokens.specs.scanner.Tokenized.{Tokenized, symbols_of}
use Rattle.ftl_tokens.specs.reading.Place.{place_of}
use Rattle.ftl_tokens.specs.reading.Reader.{ReadResult}
use Rattle.ftl_tokens.proofs.reading.PlacesOnce.{one_place}
use Rattle.ftl_grammar.specs.declared.syntax.rules.Grammar.{Grammar}
use Rattle.ftl_meaning.specs.faults.Checked.{attribute_named}
use Rattle.ftl_schedule.specs.syntax.Reading.{schedule}
use Rattle.ftl_schedule.specs.declared.syntax.types.AttributeName.{AttributeName}
use Rattle.ftl_schedule.specs.declared.syntax.types.WrittenPass.{WrittenPass}
use Rattle.ftl_schedule.specs.declared.syntax.types.WrittenStage.{WrittenStage}
use Rattle.ftl_schedule.specs.declared.syntax.types.WrittenSchedule.{WrittenSchedule}
use Rattle.ftl_schedule.proofs.syntax.Schedules.{is_no_schedule, is_spelled, one_written_schedule}
use Rattle.ftl_schedule.specs.declared.stages.types.Schedule.{Schedule}
use Rattle.ftl_schedule.specs.names.Named.{attribute_number, before, each, made_of, number_or}
use Rattle.ftl_schedule.specs.names.Named.{pass_named, schedule_named, stage_named}
use Rattle.ftl_schedule.specs.declared.names.fault.ScheduleFault.{ScheduleFault}
use Rattle.ftl_schedule.specs.declared.names.fault.ScheduleFault.TheVariants.{OutOfMemory, Syntax, TooManyBeside, TooManyPasses}
use Rattle.ftl_schedule.specs.reading.Limits.{beside_fault, limit_fault, pass_count}
use Rattle.ftl_schedule.specs.reading.Read.{Answers, Is, schedule_of, unless}
use Rattle.ftl_schedule.proofs.check.NeverMemory.{if_never}

-- ---- the definitions never answer want of memory

pub beside_never : (n : ℕ) (stages : List WrittenStage) → beside_fault n stages ≢ Some OutOfMemory
beside_never n [] = λ e. cc
beside_never n (s ∷ more) =
    if_never OutOfMemory (nat_lt 4 (length s.passes)) (Some (TooManyBeside n (length s.passes))) (beside_fault (n + 1) more)
    (λ e. cc) (beside_never (n + 1) more)

pub limit_never : (stages : List WrittenStage) → limit_fault stages ≢ Some OutOfMemory
limit_never stages =
    if_never OutOfMemory (nat_lt 2048 (pass_count stages)) (Some (TooManyPasses (pass_count stages))) (beside_fault 1 stages)
    (λ e. cc) (beside_never 1 stages)

pub made_never : {X Y : Type 0} (f : X → Y) (r : Result X ScheduleFault) → r ≢ Err OutOfMemory
    → made_of f r ≢ Err OutOfMemory
made_never f (Ok x) told = λ e. cc
made_never f (Err fault) told = λ e. told cc

pub before_never : {X : Type 0} (r : Result X ScheduleFault) (later : Result (List X) ScheduleFault)
    → r ≢ Err OutOfMemory → later ≢ Err OutOfMemory → before r later ≢ Err OutOfMemory
before_never (Ok x) later p q = made_never _ later q
before_never (Err fault) later p q = λ e. p cc

pub each_never : {X Y : Type 0} (f : X → Result Y ScheduleFault) → ((x : X) → f x ≢ Err OutOfMemory) → (xs : List X)
    → each f xs ≢ Err OutOfMemory
each_never f never [] = λ e. cc
each_never f never (x ∷ xs) = before_never (f x) (each f xs) (never x) (each_never f never xs)

pub number_never : (found : Option ℕ) (x : AttributeName) → number_or found x ≢ Err OutOfMemory
number_never (Some a) x = λ e. cc
number_never None x = λ e. cc

pub named_never : (g : Grammar) (w : WrittenSchedule) → schedule_named g w ≢ Err OutOfMemory
named_never g w =
    made_never _ _
    (each_never (stage_named g)
    (λ (s : WrittenStage).
    made_never _ _
    (each_never (pass_named g)
    (λ (p : WrittenPass).
    made_never _ _
    (each_never (attribute_number g) (λ (x : AttributeName). number_never (attribute_named g x.owner x.attr) x) p.attrs))
    s.passes))
    w.stages)

pub unless_never : (fault : Option ScheduleFault) (later : Result Schedule ScheduleFault) → fault ≢ Some OutOfMemory
    → later ≢ Err OutOfMemory → unless fault later ≢ Err OutOfMemory
unless_never None later p q = q
unless_never (Some fault) later p q = λ e. p cc

pub never_memory : (g : Grammar) (w : WrittenSchedule) → schedule_of g w ≢ Err OutOfMemory
never_memory g w = unless_never (limit_fault w.stages) (schedule_named g w) (limit_never w.stages) (named_never g w)

-- ---- some answer

pub is_itself : (r : Result Schedule ScheduleFault) → Is r r
is_itself (Ok s) = refl
is_itself (Err fault) = λ told. refl

-- a text has an answer
pub some_schedule : (g : Grammar) (scanned : Tokenized)
    → (answer : Result Schedule ScheduleFault) × (answer ≢ Err OutOfMemory) × Answers g scanned answer
some_schedule g scanned = by (schedule (symbols_of scanned)) refl
  where
    by : (given : ReadResult WrittenSchedule) → schedule (symbols_of scanned) ≡ given
        → (answer : Result Schedule ScheduleFault) × (answer ≢ Err OutOfMemory) × Answers g scanned answer
    by (Ok (w, left)) e = (
      schedule_of g w,
      never_memory g w,
      inr (inl (record {
        written = w;
        spells = is_spelled (symbols_of scanned) left w e;
        answer = is_itself (schedule_of g w);
      })),
    )
    by (Err rest) e =
        let at = place_of scanned.tokens (length scanned.tokens - length rest) in (
          Err (Syntax at),
          (λ memory. cc),
          inl (record {
            at = at;
            none = is_no_schedule scanned rest (length rest) at e refl refl;
            answer = λ told. refl;
          }),
        )

-- ---- no other

pub expected_is : (r expected : Result Schedule ScheduleFault) → Is r expected → r ≢ Err OutOfMemory → expected ≡ r
expected_is (Ok s) expected is told = is
expected_is (Err fault) expected is told = is (λ same. told (ap Err same))

-- and no other
pub one_schedule : (g : Grammar) (scanned : Tokenized) (a b : Result Schedule ScheduleFault) → a ≢ Err OutOfMemory
    → b ≢ Err OutOfMemory → Answers g scanned a → Answers g scanned b → a ≡ b
one_schedule g scanned a b ta tb (inl p) (inl q) =
    sym (expected_is a (Err (Syntax p.at)) p.answer ta)
    ∙ (ap (λ k. Err (Syntax k)) (one_place p.none.place q.none.place)
    ∙ expected_is b (Err (Syntax q.at)) q.answer tb)
one_schedule g scanned a b ta tb (inl p) (inr (inl q)) = absurd (p.none.none q.written q.spells)
one_schedule g scanned a b ta tb (inl p) (inr (inr q)) = absurd (tb q)
one_schedule g scanned a b ta tb (inr (inl p)) (inl q) = absurd (q.none.none p.written p.spells)
one_schedule g scanned a b ta tb (inr (inl p)) (inr (inl q)) =
    sym (expected_is a (schedule_of g p.written) p.answer ta)
    ∙ (ap (schedule_of g) (one_written_schedule (symbols_of scanned) p.written q.written p.spells q.spells)
    ∙ expected_is b (schedule_of g q.written) q.answer tb)
one_schedule g scanned a b ta tb (inr (inl p)) (inr (inr q)) = absurd (tb q)
one_schedule g scanned a b ta tb (inr (inr p)) other = absurd (ta p)
