-- The schedule by number that a written one with nests stands for, or the first fault of its names by place in the
-- text. After the names of a pass's own list come its nest's host, and then the names of its inner lists.
use Rattle.std.specs.Prelude.{◌≡◌, ℕ, Bool, not, if◌then◌else◌, List, Option, Some, None, Result, Ok, Err}
use Rattle.ftl_grammar.specs.declared.syntax.rules.Grammar.{Grammar}
use Rattle.ftl_meaning.specs.faults.Checked.{CheckedGrammar, class_named}
use Rattle.ftl_deps.specs.reads.Meant.{meant}
use Rattle.ftl_model.specs.layout.AttributeGrammar.{AttributeGrammar}
use Rattle.ftl_order.specs.orders.Lawful.{IsLawful}
use Rattle.ftl_schedule.specs.names.Named.{attribute_number, each, made_of}
use Rattle.ftl_schedule.specs.declared.names.fault.ScheduleFault.{ScheduleFault}
use Rattle.ftl_schedule.specs.declared.names.fault.ScheduleFault.TheVariants.{NestAttribute, OpenNest, UnknownHost}
use Rattle.ftl_schedule.specs.declared.stages.types.Pass.{Pass}
use Rattle.ftl_schedule.specs.declared.stages.types.Stage.{Stage}
use Rattle.ftl_schedule.specs.declared.syntax.kind.PassKind.{PassKind}
use Rattle.ftl_schedule.specs.declared.syntax.types.AttributeName.{AttributeName}
use Rattle.ftl_schedule.specs.declared.syntax.types.WrittenPass.{WrittenPass}
use Rattle.ftl_schedule.specs.declared.syntax.types.WrittenStage.{WrittenStage}
use Rattle.ftl_nest_check.specs.declared.stages.types.Nest.{Nest}
use Rattle.ftl_nest_check.specs.declared.stages.types.NestingPass.{NestingPass}
use Rattle.ftl_nest_check.specs.declared.stages.types.NestingStage.{NestingStage}
use Rattle.ftl_nest_check.specs.declared.stages.types.NestingSchedule.{NestingSchedule}
use Rattle.ftl_nest_text.specs.declared.syntax.types.WrittenNest.{WrittenNest}
use Rattle.ftl_nest_text.specs.declared.syntax.types.WrittenNestingPass.{WrittenNestingPass}
use Rattle.ftl_nest_text.specs.declared.syntax.types.WrittenNestingStage.{WrittenNestingStage}
use Rattle.ftl_nest_text.specs.declared.syntax.types.WrittenNestingSchedule.{WrittenNestingSchedule}
use Rattle.ftl_nest_text.specs.names.RegionTests.{RegionTests, Tell, region_tests}

-- the number where the test says yes, else that the attribute is on the wrong side of a nest
abbrev pub on_side : Bool → AttributeName → ℕ → Result ℕ ScheduleFault
on_side right x a = if right then Ok a else Err (NestAttribute x.owner x.attr)

-- what is found by the number, where there is one
abbrev pub with_number : {Y : Type 0} → (ℕ → Result Y ScheduleFault) → Result ℕ ScheduleFault → Result Y ScheduleFault
with_number f (Ok a) = f a
with_number f (Err fault) = Err fault

-- an attribute of an inner list: a computed one of the host's region
abbrev pub inner_number : RegionTests → Grammar → (host : ℕ) → AttributeName → Result ℕ ScheduleFault
inner_number tests g host x = with_number (λ a. on_side (tests.has host a) x a) (attribute_number g x)

-- an attribute of the own list of a pass with a nest: a computed one outside the host's region
abbrev pub outer_number : RegionTests → Grammar → (host : ℕ) → AttributeName → Result ℕ ScheduleFault
outer_number tests g host x = with_number (λ a. on_side (not (tests.has host a)) x a) (attribute_number g x)

-- an inner pass
abbrev pub inner_pass_named : RegionTests → Grammar → (host : ℕ) → WrittenPass → Result Pass ScheduleFault
inner_pass_named tests g host p =
    made_of (λ attrs. record { kind = p.kind; attrs = attrs }) (each (inner_number tests g host) p.attrs)

-- an inner stage
abbrev pub inner_stage_named : RegionTests → Grammar → (host : ℕ) → WrittenStage → Result Stage ScheduleFault
inner_stage_named tests g host s =
    made_of (λ passes. record { passes = passes }) (each (inner_pass_named tests g host) s.passes)

-- the stages of a nest with this host
abbrev pub inner_named : RegionTests → Grammar → (host : ℕ) → List WrittenStage → Result Nest ScheduleFault
inner_named tests g host stages =
    made_of (λ stages. record { host = host; inner = record { stages = stages } })
    (each (inner_stage_named tests g host) stages)

-- what comes later, unless there is a fault before it
abbrev pub behind : {X Y : Type 0} → Result X ScheduleFault → Result Y ScheduleFault → Result Y ScheduleFault
behind (Ok x) later = later
behind (Err fault) later = Err fault

-- the class that is the host, where a nest with it is closed
abbrev pub closed_host : RegionTests → WrittenNest → Option ℕ → Result ℕ ScheduleFault
closed_host tests nest (Some host) = if tests.is_closed host then Ok host else Err (OpenNest nest.host)
closed_host tests nest None = Err (UnknownHost nest.host)

-- the host of a nest
abbrev pub host_named : RegionTests → Grammar → WrittenNest → Result ℕ ScheduleFault
host_named tests g nest = closed_host tests nest (class_named g nest.host)

-- a nest of a pass with this own list: its host, then that none of the list is of the region, then its stages
abbrev pub nest_by : RegionTests → Grammar → List AttributeName → WrittenNest → Result Nest ScheduleFault
nest_by tests g own nest =
    with_number (λ host. behind (each (outer_number tests g host) own) (inner_named tests g host nest.stages))
    (host_named tests g nest)

-- a nest, if there is one
abbrev pub nest_named : RegionTests → Grammar → List AttributeName → Option WrittenNest
    → Result (Option Nest) ScheduleFault
nest_named tests g own None = Ok None
nest_named tests g own (Some nest) = made_of Some (nest_by tests g own nest)

-- a pass of this kind with these attributes
abbrev pub with_nest : PassKind → List ℕ → Result (Option Nest) ScheduleFault → Result NestingPass ScheduleFault
with_nest kind attrs nest = made_of (λ n. record { kind = kind; attrs = attrs; nest = n }) nest

-- its nest behind its own list, where that has no fault
abbrev pub pass_by : PassKind → Result (List ℕ) ScheduleFault → Result (Option Nest) ScheduleFault
    → Result NestingPass ScheduleFault
pass_by kind (Ok attrs) nest = with_nest kind attrs nest
pass_by kind (Err fault) nest = Err fault

-- a pass: its own list, and then its nest
abbrev pub nesting_pass_named : RegionTests → Grammar → WrittenNestingPass → Result NestingPass ScheduleFault
nesting_pass_named tests g p =
    pass_by p.kind (each (attribute_number g) p.attrs) (nest_named tests g p.attrs p.nest)

-- a stage
abbrev pub nesting_stage_named : RegionTests → Grammar → WrittenNestingStage → Result NestingStage ScheduleFault
nesting_stage_named tests g s =
    made_of (λ passes. record { passes = passes }) (each (nesting_pass_named tests g) s.passes)

-- a schedule, by tests of regions
abbrev pub named_by : RegionTests → Grammar → WrittenNestingSchedule → Result NestingSchedule ScheduleFault
named_by tests g s =
    made_of (λ stages. record { stages = stages }) (each (nesting_stage_named tests g) s.stages)

-- a schedule, by the tests of the grammar's regions
abbrev pub nesting_schedule_named : CheckedGrammar → WrittenNestingSchedule → Result NestingSchedule ScheduleFault
nesting_schedule_named c s = named_by (region_tests (meant c)) c.grammar s

-- any tests that tell of the grammar's regions give the same schedule, or the same first fault
abbrev pub TestsGiveOne : Type 0
TestsGiveOne =
    (c : CheckedGrammar) (tests : RegionTests) (s : WrittenNestingSchedule) → IsLawful (meant c) → Tell (meant c) tests
    → nesting_schedule_named c s ≡ named_by tests c.grammar s

-- the tests of a lawful grammar tell of its regions
abbrev pub TestsTell : Type 0
TestsTell = (g : AttributeGrammar) → IsLawful g → Tell g (region_tests g)
