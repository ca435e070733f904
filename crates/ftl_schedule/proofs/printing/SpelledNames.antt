-- The names of a schedule that the tokens of a text spell can be said.
use Rattle.std.proofs.Common.{◌≢◌, List, [], ◌∷◌, length, ap, arith}
use Rattle.std.specs.List.{All, AllByRecursion}
use Rattle.std.proofs.lemmas.List.Elements.{All-from_recursion}
use Rattle.ftl_tokens.specs.declared.scanner.kind.Kind.TheVariants as kind
use Rattle.ftl_tokens.specs.scanner.Tokenized.{fixed}
use Rattle.ftl_tokens.specs.reading.Reader.{Tokens}
use Rattle.ftl_grammar.proofs.printing.Levels.{Each, each-left, each-right}
use Rattle.ftl_grammar.proofs.printing.SpelledAttrs.{Said}
use Rattle.ftl_schedule.specs.syntax.Spelling.{SpellsAttribute, SpellsAttributes, SpellsPass, SpellsPasses, SpellsSchedule}
use Rattle.ftl_schedule.specs.syntax.Spelling.{SpellsStage, SpellsStages, attribute_of, more_attributes, more_passes}
use Rattle.ftl_schedule.specs.syntax.Spelling.{more_stages, no_attributes, no_stages, one_pass, one_stage, pass_of}
use Rattle.ftl_schedule.specs.syntax.Spelling.{stage_of, stages_of}
use Rattle.ftl_schedule.specs.declared.syntax.types.AttributeName.{AttributeName}
use Rattle.ftl_schedule.specs.declared.syntax.types.WrittenPass.{WrittenPass}
use Rattle.ftl_schedule.specs.declared.syntax.types.WrittenSchedule.{WrittenSchedule}
use Rattle.ftl_schedule.specs.declared.syntax.types.WrittenStage.{WrittenStage}
use Rattle.ftl_schedule.specs.text.ScheduleText.{CanBeWritten, HasNames}
use Rattle.ftl_schedule.proofs.reading.ReadLimits.{HasSome, schedule_some}

abbrev pub PassNames : WrittenPass → Type 0
PassNames p = All HasNames p.attrs

abbrev pub StageNames : WrittenStage → Type 0
StageNames s = All PassNames s.passes

pub attribute_said : {ts : Tokens} {x : AttributeName} → SpellsAttribute ts x → Each Said ts → HasNames x
attribute_said attribute_of said = (said.0, said.1.1.0)

pub attributes_said : {ts : Tokens} {xs : List AttributeName} → SpellsAttributes ts xs → Each Said ts
    → AllByRecursion HasNames xs
attributes_said no_attributes said = tt
attributes_said (more_attributes {a = a} {b = b} s t) said =
    (attribute_said s (each-left Said a b said), attributes_said t (each-right Said a b said))

pub pass_said : {ts : Tokens} {x : WrittenPass} → SpellsPass ts x → Each Said ts → PassNames x
pass_said (pass_of {a = a} {xs = xs} s) said =
    All-from_recursion HasNames xs (attributes_said s (each-left Said a (fixed kind.RightBrace ∷ []) said.1.1))

pub passes_said : {ts : Tokens} {xs : List WrittenPass} → SpellsPasses ts xs → Each Said ts → AllByRecursion PassNames xs
passes_said (one_pass s) said = (pass_said s said, tt)
passes_said (more_passes {a = a} {b = b} s t) said = (
  pass_said s (each-left Said a (fixed kind.OrOr ∷ b) said),
  passes_said t (each-right Said a (fixed kind.OrOr ∷ b) said).1,
)

pub stage_said : {ts : Tokens} {x : WrittenStage} → SpellsStage ts x → Each Said ts → StageNames x
stage_said (stage_of {xs = xs} s) said = All-from_recursion PassNames xs (passes_said s said)

pub stages_said : {ts : Tokens} {xs : List WrittenStage} → SpellsStages ts xs → Each Said ts → AllByRecursion StageNames xs
stages_said (one_stage s) said = (stage_said s said, tt)
stages_said (more_stages {a = a} {b = b} s t) said = (
  stage_said s (each-left Said a (fixed kind.Semicolon ∷ b) said),
  stages_said t (each-right Said a (fixed kind.Semicolon ∷ b) said).1,
)

pub schedule_said : {ts : Tokens} {s : WrittenSchedule} → SpellsSchedule ts s → Each Said ts
    → AllByRecursion StageNames s.stages
schedule_said no_stages said = tt
schedule_said (stages_of s) said = stages_said s said

-- a stage with a pass has some passes
pub has_pass : (stages : List WrittenStage) → AllByRecursion HasSome stages
    → AllByRecursion (λ (s : WrittenStage). s.passes ≢ []) stages
has_pass [] some = tt
has_pass (s ∷ stages) some =
    let here = some.0 in
    (λ none. (let empty = ap length none in let z : ⊥ = omega (arith, empty, here) in z), has_pass stages some.1)

-- what is spelled by tokens that can be said can be written
pub spelled_writable : {ts : Tokens} {s : WrittenSchedule} → SpellsSchedule ts s → Each Said ts → CanBeWritten s
spelled_writable {s = s} spells said = record {
  passes = All-from_recursion (λ (x : WrittenStage). x.passes ≢ []) s.stages (has_pass s.stages (schedule_some spells));
  names = All-from_recursion StageNames s.stages (schedule_said spells said);
}
