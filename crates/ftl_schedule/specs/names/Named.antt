-- The schedule that a written one stands for: each attribute by its number, or the first that names no computed one.
use Rattle.std.specs.Prelude.{ℕ, List, [], ◌∷◌, ◌++◌, Option, Some, None, Result, Ok, Err}
use Rattle.ftl_grammar.specs.declared.syntax.rules.Grammar.{Grammar}
use Rattle.ftl_meaning.specs.faults.Checked.{attribute_named}
use Rattle.ftl_schedule.specs.declared.syntax.types.AttributeName.{AttributeName}
use Rattle.ftl_schedule.specs.declared.syntax.types.WrittenPass.{WrittenPass}
use Rattle.ftl_schedule.specs.declared.syntax.types.WrittenStage.{WrittenStage}
use Rattle.ftl_schedule.specs.declared.syntax.types.WrittenSchedule.{WrittenSchedule}
use Rattle.ftl_schedule.specs.declared.stages.types.Pass.{Pass}
use Rattle.ftl_schedule.specs.declared.stages.types.Stage.{Stage}
use Rattle.ftl_schedule.specs.declared.stages.types.Schedule.{Schedule}
use Rattle.ftl_schedule.specs.declared.names.fault.ScheduleFault.{ScheduleFault}
use Rattle.ftl_schedule.specs.declared.names.fault.ScheduleFault.TheVariants.{UnknownAttribute}

-- what is made of a value, where there is no fault
abbrev pub made_of : {X Y : Type 0} → (X → Y) → Result X ScheduleFault → Result Y ScheduleFault
made_of f (Ok x) = Ok (f x)
made_of f (Err fault) = Err fault

-- entries after others, where there is no fault
abbrev pub after : {X : Type 0} → List X → Result (List X) ScheduleFault → Result (List X) ScheduleFault
after xs later = made_of (λ ys. xs ++ ys) later

-- an entry before others, or its fault
abbrev pub before : {X : Type 0} → Result X ScheduleFault → Result (List X) ScheduleFault
    → Result (List X) ScheduleFault
before (Ok x) later = after (x ∷ []) later
before (Err fault) later = Err fault

-- what each entry stands for, or the first fault
abbrev pub each : {X Y : Type 0} → (X → Result Y ScheduleFault) → List X → Result (List Y) ScheduleFault
each f [] = Ok []
each f (x ∷ xs) = before (f x) (each f xs)

-- the number that is found, or that there is none
abbrev pub number_or : Option ℕ → AttributeName → Result ℕ ScheduleFault
number_or (Some a) x = Ok a
number_or None x = Err (UnknownAttribute x.owner x.attr)

-- the computed attribute of this owner and name
abbrev pub attribute_number : Grammar → AttributeName → Result ℕ ScheduleFault
attribute_number g x = number_or (attribute_named g x.owner x.attr) x

-- a pass
abbrev pub pass_named : Grammar → WrittenPass → Result Pass ScheduleFault
pass_named g p = made_of (λ attrs. record { kind = p.kind; attrs = attrs }) (each (attribute_number g) p.attrs)

-- a stage
abbrev pub stage_named : Grammar → WrittenStage → Result Stage ScheduleFault
stage_named g s = made_of (λ passes. record { passes = passes }) (each (pass_named g) s.passes)

-- a schedule
abbrev pub schedule_named : Grammar → WrittenSchedule → Result Schedule ScheduleFault
schedule_named g s = made_of (λ stages. record { stages = stages }) (each (stage_named g) s.stages)
