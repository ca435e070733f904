-- No first fault of a plan is want of memory.
use Rattle.std.proofs.Common.{◌≢◌, ℕ, ◌+◌, length, nat_lt, Option, Some, None}
use Rattle.std.specs.List.{range_with_len}
use Rattle.std.specs.Option.{option_map}
use Rattle.ftl_model.specs.layout.AttributeGrammar.{AttributeGrammar}
use Rattle.ftl_model.specs.layout.Solves.{Instance}
use Rattle.ftl_model.specs.layout.Tree.{Forest}
use Rattle.ftl_order.specs.orders.Schedule.{Schedule}
use Rattle.ftl_items.specs.stage_items.Limits.{first_wide_step, read_count, stage_read_count}
use Rattle.ftl_schedule.proofs.check.NeverMemory.{along_never, if_never, or_never}
use Rattle.ftl_step_value.specs.limits.faults.PlanFaults.{fault_past, first_fault, first_of_stages, step_too_wide, too_many_reads}
use Rattle.ftl_step_value.specs.declared.limits.faults.fault.PlanFault.{PlanFault}
use Rattle.ftl_step_value.specs.declared.limits.faults.fault.PlanFault.TheVariants.{OutOfMemory, StepTooWide, TooManyReads}

past_never : (limit stage n : ℕ) → fault_past limit (TooManyReads stage) n ≢ Some OutOfMemory
past_never limit stage n = if_never OutOfMemory (nat_lt limit n) (Some (TooManyReads stage n)) None (λ e. cc) (λ e. cc)

wide_never : (stage : ℕ) (count : Instance → ℕ) (step : Option Instance)
    → option_map (λ i. StepTooWide stage (count i)) step ≢ Some OutOfMemory
wide_never stage count None = λ e. cc
wide_never stage count (Some i) = λ e. cc

stages_never : (s : Schedule) (fault_at : ℕ → Option PlanFault) → ((k : ℕ) → fault_at k ≢ Some OutOfMemory)
    → first_of_stages s fault_at ≢ Some OutOfMemory
stages_never s fault_at never = along_never OutOfMemory fault_at (range_with_len 0 (length s)) never

pub never_memory : (g : AttributeGrammar) (s : Schedule) (t : Forest) → first_fault g s t ≢ Some OutOfMemory
never_memory g s t =
    or_never OutOfMemory (first_of_stages s (too_many_reads g s t)) (first_of_stages s (step_too_wide g s t))
    (stages_never s (too_many_reads g s t) (λ k. past_never 67108864 (k + 1) (stage_read_count g t s k)))
    (stages_never s (step_too_wide g s t)
    (λ k. wide_never (k + 1) (read_count g t) (first_wide_step g t s k 1048576)))
