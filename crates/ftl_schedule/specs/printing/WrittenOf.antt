-- The written schedule that a schedule by number stands for: each attribute by its owner's name and its own.
use Rattle.std.specs.Prelude.{ℕ, ◌<◌, List, length, map}
use Rattle.std.specs.List.{All}
use Rattle.ftl_grammar.specs.declared.syntax.rules.Grammar.{Grammar}
use Rattle.ftl_meaning.specs.faults.Checked.{all_attributes, attribute_at, owner_name_of}
use Rattle.ftl_schedule.specs.syntax.Trees.{attribute_name, written_pass, written_schedule, written_stage}
use Rattle.ftl_schedule.specs.declared.syntax.types.AttributeName.{AttributeName}
use Rattle.ftl_schedule.specs.declared.syntax.types.WrittenPass.{WrittenPass}
use Rattle.ftl_schedule.specs.declared.syntax.types.WrittenStage.{WrittenStage}
use Rattle.ftl_schedule.specs.declared.syntax.types.WrittenSchedule.{WrittenSchedule}
use Rattle.ftl_schedule.specs.declared.stages.types.Pass.{Pass}
use Rattle.ftl_schedule.specs.declared.stages.types.Stage.{Stage}
use Rattle.ftl_schedule.specs.declared.stages.types.Schedule.{Schedule}

-- an attribute by the name of the interface or class that declares it, and its own
abbrev pub name_of : Grammar → (attribute : ℕ) → AttributeName
name_of g a = attribute_name (owner_name_of g (attribute_at g a)) (attribute_at g a).decl.name

-- a pass
abbrev pub pass_by_name : Grammar → Pass → WrittenPass
pass_by_name g p = written_pass p.kind (map (name_of g) p.attrs)

-- a stage
abbrev pub stage_by_name : Grammar → Stage → WrittenStage
stage_by_name g s = written_stage (map (pass_by_name g) s.passes)

-- a schedule
abbrev pub written_of : Grammar → Schedule → WrittenSchedule
written_of g s = written_schedule (map (stage_by_name g) s.stages)

-- the attributes of a pass are those of the grammar
abbrev pub IsPassKnown : Grammar → Pass → Type 0
IsPassKnown g p = All (λ a. a < length (all_attributes g)) p.attrs

-- those of some passes
abbrev pub ArePassesKnown : Grammar → List Pass → Type 0
ArePassesKnown g passes = All (IsPassKnown g) passes

-- those of some stages
abbrev pub AreStagesKnown : Grammar → List Stage → Type 0
AreStagesKnown g stages = All (λ (s : Stage). ArePassesKnown g s.passes) stages
