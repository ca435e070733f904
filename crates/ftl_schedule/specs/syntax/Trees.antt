-- Schedules as they are written, by what they are made of.
use Rattle.std.specs.Prelude.{ℕ, List, codes}
use Rattle.ftl_schedule.specs.declared.syntax.kind.PassKind.{PassKind}
use Rattle.ftl_schedule.specs.declared.syntax.kind.PassKind.TheVariants.{TopDown, BottomUp, InOrder}
use Rattle.ftl_schedule.specs.declared.syntax.types.AttributeName.{AttributeName}
use Rattle.ftl_schedule.specs.declared.syntax.types.WrittenPass.{WrittenPass}
use Rattle.ftl_schedule.specs.declared.syntax.types.WrittenStage.{WrittenStage}
use Rattle.ftl_schedule.specs.declared.syntax.types.WrittenSchedule.{WrittenSchedule}

-- a name, by its bytes in UTF-8
abbrev pub NameText : Type 0
NameText = List ℕ

-- the word that a pass of this kind begins with; it is an ordinary name elsewhere
abbrev pub word_of : PassKind → NameText
word_of TopDown = codes "topdown"
word_of BottomUp = codes "bottomup"
word_of InOrder = codes "inorder"

-- an attribute by its owner and its name
abbrev pub attribute_name : NameText → NameText → AttributeName
attribute_name owner attr = record { owner = owner; attr = attr }

-- a pass of this kind over these attributes
abbrev pub written_pass : PassKind → List AttributeName → WrittenPass
written_pass kind attrs = record { kind = kind; attrs = attrs }

-- a stage of these passes
abbrev pub written_stage : List WrittenPass → WrittenStage
written_stage passes = record { passes = passes }

-- a schedule of these stages
abbrev pub written_schedule : List WrittenStage → WrittenSchedule
written_schedule stages = record { stages = stages }
