-- The first fault of a plan: a stage whose steps read too much in all, or a step that reads too much.
use Rattle.std.specs.Prelude.{ℕ, ◌+◌, nat_lt, if◌then◌else◌, length, Option, Some, None}
use Rattle.std.specs.List.{range_with_len}
use Rattle.std.specs.Option.{option_map, option_or}
use Rattle.ftl_model.specs.layout.Limits.{most_stage_reads, most_step_reads}
use Rattle.ftl_model.specs.lists.FirstAlong.{first_along}
use Rattle.ftl_model.specs.layout.AttributeGrammar.{AttributeGrammar}
use Rattle.ftl_model.specs.layout.Tree.{Forest}
use Rattle.ftl_order.specs.orders.Schedule.{Schedule}
use Rattle.ftl_items.specs.stage_items.Limits.{first_wide_step, read_count, stage_read_count}
use Rattle.ftl_step_value.specs.declared.limits.faults.fault.PlanFault.{PlanFault}
use Rattle.ftl_step_value.specs.declared.limits.faults.fault.PlanFault.TheVariants.{TooManyReads, StepTooWide}

-- the first fault of the stages of a schedule
abbrev pub first_of_stages : Schedule → (ℕ → Option PlanFault) → Option PlanFault
first_of_stages s fault_at = first_along fault_at (range_with_len 0 (length s))

-- a count past a limit
abbrev pub fault_past : (limit : ℕ) → (ℕ → PlanFault) → (count : ℕ) → Option PlanFault
fault_past limit fault n = if nat_lt limit n then Some (fault n) else None

-- all steps of the stage read too much in all; stages are counted from 1
abbrev pub too_many_reads : AttributeGrammar → Schedule → Forest → (stage : ℕ) → Option PlanFault
too_many_reads g s t k = fault_past most_stage_reads (TooManyReads (k + 1)) (stage_read_count g t s k)

-- a step of the stage reads too much: the first in the order of instances
abbrev pub step_too_wide : AttributeGrammar → Schedule → Forest → (stage : ℕ) → Option PlanFault
step_too_wide g s t k = option_map (λ i. StepTooWide (k + 1) (read_count g t i)) (first_wide_step g t s k most_step_reads)

-- the first fault: of the first stage that reads too much, or else of the first with such a step
abbrev pub first_fault : AttributeGrammar → Schedule → Forest → Option PlanFault
first_fault g s t = option_or (first_of_stages s (too_many_reads g s t)) (first_of_stages s (step_too_wide g s t))
