-- A schedule that was read is within the limits on passes.
use Rattle.std.proofs.Common.{◌≡◌, ℕ, ◌+◌, ◌≤◌, Bool, true, false, cond, nat_lt, List, [], ◌∷◌, length, map, Some, None, Ok}
use Rattle.std.proofs.Common.{refl, sym, ◌∙◌, ap, subst, arith}
use Rattle.std.specs.List.{All, AllByRecursion, sum_by}
use Rattle.std.proofs.lemmas.Bool.{ltb-false}
use Rattle.std.proofs.lemmas.List.{length-map}
use Rattle.std.proofs.lemmas.List.Elements.{All-cons, All-nil}
use Rattle.std.proofs.lemmas.List.Sums.{sum_by-cons}
use Rattle.ftl_tokens.specs.scanner.Tokenized.{Tokenized}
use Rattle.ftl_tokens.specs.reading.Reader.{Tokens}
use Rattle.ftl_order.specs.orders.Schedule as order
use Rattle.ftl_grammar.specs.declared.syntax.rules.Grammar.{Grammar}
use Rattle.ftl_schedule.specs.syntax.Spelling.{SpellsPasses, SpellsSchedule, SpellsStage, SpellsStages}
use Rattle.ftl_schedule.specs.syntax.Spelling.{more_passes, more_stages, no_stages, one_pass, one_stage, stage_of}
use Rattle.ftl_schedule.specs.syntax.Spelling.{stages_of}
use Rattle.ftl_schedule.specs.declared.syntax.types.WrittenPass.{WrittenPass}
use Rattle.ftl_schedule.specs.declared.syntax.types.WrittenStage.{WrittenStage}
use Rattle.ftl_schedule.specs.declared.syntax.types.WrittenSchedule.{WrittenSchedule}
use Rattle.ftl_schedule.specs.stages.PassLimits.{HasFewPasses, IsWithinPassLimits}
use Rattle.ftl_schedule.specs.stages.Stages as meaning
use Rattle.ftl_schedule.specs.declared.stages.types.Pass.{Pass}
use Rattle.ftl_schedule.specs.declared.stages.types.Stage.{Stage}
use Rattle.ftl_schedule.specs.declared.stages.types.Schedule.{Schedule}
use Rattle.ftl_schedule.specs.names.Named.{each, pass_named, schedule_named, stage_named}
use Rattle.ftl_schedule.specs.declared.names.fault.ScheduleFault.TheVariants.{TooManyBeside, TooManyPasses}
use Rattle.ftl_schedule.specs.reading.Limits.{beside_fault, limit_fault, pass_count}
use Rattle.ftl_schedule.specs.reading.Read.{Answers}
use Rattle.ftl_schedule.proofs.names.NamedParts.{made, parts, same_Ok}
use Rattle.ftl_schedule.proofs.reading.ReadFrom.{read_from}

-- ---- what is spelled has no stage without a pass

abbrev pub HasSome : WrittenStage → Type 0
HasSome s = 1 ≤ length s.passes

pub passes_some : {ts : Tokens} {ps : List WrittenPass} → SpellsPasses ts ps → 1 ≤ length ps
passes_some (one_pass s) = omega arith
passes_some (more_passes s t) = omega arith

pub stage_some : {ts : Tokens} {s : WrittenStage} → SpellsStage ts s → HasSome s
stage_some (stage_of s) = passes_some s

pub stages_some : {ts : Tokens} {ss : List WrittenStage} → SpellsStages ts ss → AllByRecursion HasSome ss
stages_some (one_stage s) = (stage_some s, tt)
stages_some (more_stages s t) = (stage_some s, stages_some t)

pub schedule_some : {ts : Tokens} {s : WrittenSchedule} → SpellsSchedule ts s → AllByRecursion HasSome s.stages
schedule_some no_stages = tt
schedule_some (stages_of s) = stages_some s

-- ---- what has no fault of the limits is within them

abbrev pub HasFew : WrittenStage → Type 0
HasFew s = length s.passes ≤ 4

pub beside_few : (n : ℕ) (stages : List WrittenStage) → beside_fault n stages ≡ None → AllByRecursion HasFew stages
beside_few n [] e = tt
beside_few n (s ∷ more) e = by_test (nat_lt 4 (length s.passes)) refl (λ rest. beside_few (n + 1) more rest) e
  where
    by_test : (b : Bool) → nat_lt 4 (length s.passes) ≡ b
        → (beside_fault (n + 1) more ≡ None → AllByRecursion HasFew more)
        → cond b (Some (TooManyBeside n (length s.passes))) (beside_fault (n + 1) more) ≡ None
        → AllByRecursion HasFew (s ∷ more)
    by_test true is later e = absurd (cc e)
    by_test false is later e = (ltb-false 4 (length s.passes) is, later e)

pub limits_kept : (stages : List WrittenStage) → limit_fault stages ≡ None
    → (pass_count stages ≤ 2048) × AllByRecursion HasFew stages
limits_kept stages e = by_test (nat_lt 2048 (pass_count stages)) refl e
  where
    by_test : (b : Bool) → nat_lt 2048 (pass_count stages) ≡ b
        → cond b (Some (TooManyPasses (pass_count stages))) (beside_fault 1 stages) ≡ None
        → (pass_count stages ≤ 2048) × AllByRecursion HasFew stages
    by_test true is e = absurd (cc e)
    by_test false is e = (ltb-false 2048 (pass_count stages) is, beside_few 1 stages e)

-- ---- names go, and as many entries stay

-- the passes of a stage
abbrev pub passes_in : Stage → List order.Pass
passes_in stage = map meaning.pass_of stage.passes

-- the stages have as many passes as the written ones, few in each
pub record AreFew (xs : List WrittenStage) (ss : List Stage) : Type 0 where
  counted : sum_by length (map passes_in ss) ≡ pass_count xs
  each : All HasFewPasses (map passes_in ss)

module _ (g : Grammar) where
  as_many : (xs : List WrittenPass) (ps : List Pass) → each (pass_named g) xs ≡ Ok ps → length ps ≡ length xs
  as_many [] ps e = ap length (sym (same_Ok [] ps e))
  as_many (x ∷ xs) ps e =
      parts (pass_named g) x xs ps e
      (λ z zs is is_later same.
      let rest = as_many xs zs is_later in
      subst (λ vs. length vs ≡ length (x ∷ xs)) same (omega (arith, rest)))

  stage_as_many : (x : WrittenStage) (s : Stage) → stage_named g x ≡ Ok s → length (passes_in s) ≡ length x.passes
  stage_as_many x s h =
      made (λ passes. record { passes = passes }) (each (pass_named g) x.passes) s h
      (λ passes is same.
      subst (λ (t : Stage). length (passes_in t) ≡ length x.passes) same
      (length-map passes meaning.pass_of ∙ as_many x.passes passes is))

  stages_few : (xs : List WrittenStage) (ss : List Stage) → each (stage_named g) xs ≡ Ok ss
      → AllByRecursion HasSome xs → AllByRecursion HasFew xs → AreFew xs ss
  stages_few [] ss e some few =
      subst (AreFew []) (same_Ok [] ss e) (record { counted = refl; each = All-nil HasFewPasses })
  stages_few (x ∷ xs) ss e some few =
      parts (stage_named g) x xs ss e
      (λ z zs is is_later same.
      let many = stage_as_many x z is in
      let later = stages_few xs zs is_later some.1 few.1 in
      let counted = later.counted in
      let first_some = some.0 in
      let first_few = few.0 in
      subst (AreFew (x ∷ xs)) same
      (record {
        counted = omega (arith, sum_by-cons length (passes_in z) (map passes_in zs), many, counted);
        each =
            All-cons HasFewPasses (passes_in z) (map passes_in zs)
            (record { some = omega (arith, many, first_some); few = omega (arith, many, first_few) }) later.each;
      }))

  named_limits : (w : WrittenSchedule) (s : Schedule) → AllByRecursion HasSome w.stages → limit_fault w.stages ≡ None
      → schedule_named g w ≡ Ok s → IsWithinPassLimits (meaning.stages_of s)
  named_limits w s some none h =
      made (λ stages. record { stages = stages }) (each (stage_named g) w.stages) s h
      (λ stages is same.
      let kept = limits_kept w.stages none in
      let few = stages_few w.stages stages is some kept.1 in
      let counted = few.counted in
      let all = kept.0 in
      subst (λ (t : Schedule). IsWithinPassLimits (meaning.stages_of t)) same
      (record { all = omega (arith, counted, all); each = few.each }))

  pub read_limits : (scanned : Tokenized) (s : Schedule) → Answers g scanned (Ok s)
      → IsWithinPassLimits (meaning.stages_of s)
  read_limits scanned s answer =
      let read = read_from g scanned s answer in
      named_limits read.written s (schedule_some read.spells) read.limits read.named
