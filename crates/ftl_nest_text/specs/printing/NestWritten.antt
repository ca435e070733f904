-- The written schedule that a schedule with nests stands for: each attribute by its owner's name and its own, each host
-- by the name of its class.
use Rattle.std.specs.Prelude.{map}
use Rattle.std.specs.Option.{option_map}
use Rattle.ftl_grammar.specs.declared.syntax.rules.Grammar.{Grammar}
use Rattle.ftl_meaning.specs.faults.Numbering.{class_at}
use Rattle.ftl_schedule.specs.printing.WrittenOf.{name_of, stage_by_name}
use Rattle.ftl_nest_check.specs.declared.stages.types.Nest.{Nest}
use Rattle.ftl_nest_check.specs.declared.stages.types.NestingPass.{NestingPass}
use Rattle.ftl_nest_check.specs.declared.stages.types.NestingStage.{NestingStage}
use Rattle.ftl_nest_check.specs.declared.stages.types.NestingSchedule.{NestingSchedule}
use Rattle.ftl_nest_text.specs.declared.syntax.types.WrittenNest.{WrittenNest}
use Rattle.ftl_nest_text.specs.declared.syntax.types.WrittenNestingPass.{WrittenNestingPass}
use Rattle.ftl_nest_text.specs.declared.syntax.types.WrittenNestingStage.{WrittenNestingStage}
use Rattle.ftl_nest_text.specs.declared.syntax.types.WrittenNestingSchedule.{WrittenNestingSchedule}

-- what a pass nests
abbrev pub nest_by_name : Grammar → Nest → WrittenNest
nest_by_name g nest = record { host = (class_at g nest.host).name; stages = map (stage_by_name g) nest.inner.stages }

-- a pass
abbrev pub nesting_pass_by_name : Grammar → NestingPass → WrittenNestingPass
nesting_pass_by_name g p =
    record { kind = p.kind; attrs = map (name_of g) p.attrs; nest = option_map (nest_by_name g) p.nest }

-- a stage
abbrev pub nesting_stage_by_name : Grammar → NestingStage → WrittenNestingStage
nesting_stage_by_name g s = record { passes = map (nesting_pass_by_name g) s.passes }

-- a schedule
abbrev pub nest_written_of : Grammar → NestingSchedule → WrittenNestingSchedule
nest_written_of g s = record { stages = map (nesting_stage_by_name g) s.stages }
