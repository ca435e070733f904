-- What a schedule answers that is verified, and what follows of one that is accepted.
use Rattle.std.specs.Prelude.{Option, Result}
use Rattle.std.specs.Option.{option_or}
use Rattle.ftl_model.specs.layout.AttributeGrammar.{AttributeGrammar}
use Rattle.ftl_model.specs.layout.Tree.{Forest}
use Rattle.ftl_model.specs.layout.TreeOf.{IsTreeOf}
use Rattle.ftl_order.specs.orders.Schedule as order
use Rattle.ftl_order.specs.faults.FirstFault.{first_fault, first_missing, first_unordered}
use Rattle.ftl_order.specs.declared.faults.fault.VerifyFault.{VerifyFault}
use Rattle.ftl_schedule.specs.stages.Stages.{stages_of}
use Rattle.ftl_schedule.specs.declared.stages.types.Schedule.{Schedule}
use Rattle.ftl_schedule.specs.places.Placed.{verdict}

-- the first fault where no attribute has two entries
abbrev pub later_fault : AttributeGrammar → order.Schedule → Option VerifyFault
later_fault g s = option_or (first_missing g (order.entries s)) (first_unordered g (order.placing_of s))

-- the schedule, or its first fault
abbrev pub verified_as : AttributeGrammar → Schedule → Result Schedule VerifyFault
verified_as g s = verdict (first_fault g (stages_of s)) s

-- on each tree of the grammar, of any size
abbrev pub OnEachTree : AttributeGrammar → order.Schedule
    → (AttributeGrammar → order.Schedule → Forest → Type 0) → Type 0
OnEachTree g s P = (t : Forest) → IsTreeOf g t → P g s t
