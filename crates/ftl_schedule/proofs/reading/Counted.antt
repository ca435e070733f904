-- A schedule has no more stages and passes than tokens spell it.
use Rattle.std.proofs.Common.{◌≡◌, ℕ, ◌+◌, ◌<◌, ◌≤◌, List, [], ◌∷◌, ◌++◌, length, drop, get_or, arith, length-append, sym, ◌∙◌, ap, add-one, refl}
use Rattle.std.proofs.Math.Seq.{drop-cons}
use Rattle.ftl_tokens.specs.declared.scanner.kind.Kind.TheVariants as kind
use Rattle.ftl_tokens.specs.scanner.Tokenized.{fixed}
use Rattle.ftl_tokens.specs.reading.Reader.{Tokens}
use Rattle.ftl_schedule.specs.syntax.Spelling.{SpellsPass, SpellsPasses, SpellsSchedule, SpellsStage, SpellsStages}
use Rattle.ftl_schedule.specs.syntax.Spelling.{more_passes, more_stages, no_stages, one_pass, one_stage, pass_of}
use Rattle.ftl_schedule.specs.syntax.Spelling.{stage_of, stages_of}
use Rattle.ftl_schedule.specs.declared.syntax.types.WrittenPass.{WrittenPass}
use Rattle.ftl_schedule.specs.declared.syntax.types.WrittenStage.{WrittenStage}
use Rattle.ftl_schedule.specs.declared.syntax.types.WrittenSchedule.{WrittenSchedule}
use Rattle.ftl_schedule.specs.reading.Limits.{pass_count}

pub pass_some : {ts : Tokens} {p : WrittenPass} → SpellsPass ts p → 1 ≤ length ts
pass_some (pass_of s) = omega arith

pub passes_few : {ts : Tokens} {ps : List WrittenPass} → SpellsPasses ts ps → length ps ≤ length ts
passes_few (one_pass s) = let some = pass_some s in omega (arith, some)
passes_few (more_passes {a = a} {b = b} s t) =
    let some = pass_some s in
    let rest = passes_few t in
    omega (arith, length-append a (fixed kind.OrOr ∷ b), some, rest)

-- neither stages nor passes are more than tokens
pub record IsCounted (n : ℕ) (stages : List WrittenStage) : Type 0 where
  pub passes : pass_count stages ≤ n
  pub many : length stages ≤ n

pub passes_some : {ts : Tokens} {ps : List WrittenPass} → SpellsPasses ts ps → 1 ≤ length ts
passes_some (one_pass s) = pass_some s
passes_some (more_passes {a = a} {b = b} s t) = omega (arith, length-append a (fixed kind.OrOr ∷ b))

pub stage_few : {ts : Tokens} {s : WrittenStage} → SpellsStage ts s → length s.passes ≤ length ts
stage_few (stage_of s) = passes_few s

pub stage_some : {ts : Tokens} {s : WrittenStage} → SpellsStage ts s → 1 ≤ length ts
stage_some (stage_of s) = passes_some s

pub stages_few : {ts : Tokens} {ss : List WrittenStage} → SpellsStages ts ss → IsCounted (length ts) ss
stages_few (one_stage s) =
    let few = stage_few s in
    let some = stage_some s in
    record { passes = omega (arith, few); many = omega (arith, some) }
stages_few (more_stages {a = a} {b = b} s t) =
    let few = stage_few s in
    let rest = stages_few t in
    let passes = rest.passes in
    let many = rest.many in
    record {
      passes = omega (arith, length-append a (fixed kind.Semicolon ∷ b), few, passes);
      many = omega (arith, length-append a (fixed kind.Semicolon ∷ b), many);
    }

pub schedule_few : {ts : Tokens} {s : WrittenSchedule} → SpellsSchedule ts s → IsCounted (length ts) s.stages
schedule_few no_stages = record { passes = omega arith; many = omega arith }
schedule_few (stages_of s) = stages_few s
