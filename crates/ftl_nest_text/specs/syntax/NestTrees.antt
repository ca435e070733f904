-- Schedules with nests as they are written, by what they are made of.
use Rattle.std.specs.Prelude.{List, Option, codes}
use Rattle.ftl_schedule.specs.declared.syntax.kind.PassKind.{PassKind}
use Rattle.ftl_schedule.specs.declared.syntax.kind.PassKind.TheVariants.{TopDown, BottomUp, InOrder}
use Rattle.ftl_schedule.specs.declared.syntax.types.WrittenPass.{WrittenPass}
use Rattle.ftl_schedule.specs.declared.syntax.types.WrittenStage.{WrittenStage}
use Rattle.ftl_schedule.specs.syntax.Trees.{NameText, written_pass}
use Rattle.ftl_nest_text.specs.declared.syntax.types.WrittenNest.{WrittenNest}
use Rattle.ftl_nest_text.specs.declared.syntax.types.WrittenNestingPass.{WrittenNestingPass}
use Rattle.ftl_nest_text.specs.declared.syntax.types.WrittenNestingStage.{WrittenNestingStage}
use Rattle.ftl_nest_text.specs.declared.syntax.types.WrittenNestingSchedule.{WrittenNestingSchedule}

-- the word that a nest begins with; it is an ordinary name elsewhere
abbrev pub nest_word : NameText
nest_word = codes "nest"

-- passes of this kind may nest
abbrev pub MayNest : PassKind → Type 0
MayNest TopDown = Unit {0}
MayNest BottomUp = Unit {0}
MayNest InOrder = ⊥

-- a nest of these stages inside each node of the class of this name
abbrev pub written_nest : NameText → List WrittenStage → WrittenNest
written_nest host stages = record { host = host; stages = stages }

-- a pass that nests this, or nothing
abbrev pub nesting_pass : WrittenPass → Option WrittenNest → WrittenNestingPass
nesting_pass pass nest = record { kind = pass.kind; attrs = pass.attrs; nest = nest }

-- a pass without what it nests
abbrev pub own_pass : WrittenNestingPass → WrittenPass
own_pass pass = written_pass pass.kind pass.attrs

-- a stage of these passes
abbrev pub nesting_stage : List WrittenNestingPass → WrittenNestingStage
nesting_stage passes = record { passes = passes }

-- a schedule of these stages
abbrev pub nesting_schedule : List WrittenNestingStage → WrittenNestingSchedule
nesting_schedule stages = record { stages = stages }
