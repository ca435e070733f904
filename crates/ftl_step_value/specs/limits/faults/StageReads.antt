-- How much the steps of each stage read, counted along the instances.
use Rattle.std.specs.Prelude.{◌≡◌, ℕ, ◌+◌, ◌*◌, ◌<◌, ◌≤◌, nat_lt, Bool, true, false, if◌then◌else◌, List, filter, length}
use Rattle.std.specs.Prelude.{slice_index_or, sum_by, take, Option, Some, None}
use Rattle.std.specs.List.{find}
use Rattle.std.specs.Option.{option_map}
use Rattle.ftl_model.specs.layout.Limits.{most_stage_reads, most_step_reads}
use Rattle.ftl_model.specs.layout.AttributeGrammar.{AttributeGrammar}
use Rattle.ftl_model.specs.layout.Path.{preorder}
use Rattle.ftl_model.specs.layout.Solves.{Instance}
use Rattle.ftl_model.specs.layout.Table.{instances, width_at}
use Rattle.ftl_model.specs.layout.Tree.{Forest}
use Rattle.ftl_order.specs.orders.Schedule.{Schedule}
use Rattle.ftl_items.specs.stage_items.Limits.{is_of_stage, read_count}
use Rattle.ftl_step_value.specs.limits.faults.PlanFaults.{fault_past}
use Rattle.ftl_step_value.specs.declared.limits.faults.fault.PlanFault.{PlanFault}
use Rattle.ftl_step_value.specs.declared.limits.faults.fault.PlanFault.TheVariants.{TooManyReads, StepTooWide}
use Rattle.ftl_step_value.specs.declared.limits.faults.reads.StageReads.{StageReads}

-- no reads
abbrev pub no_reads : StageReads
no_reads = record { total = 0; wide = None }

-- what is there, or else a count where it is past the limit
abbrev pub or_wide : Option ℕ → (count : ℕ) → Option ℕ
or_wide (Some n) count = Some n
or_wide None count = if nat_lt most_step_reads count then Some count else None

-- with one step more, which reads so much
abbrev pub with_step : StageReads → (count : ℕ) → StageReads
with_step c n = record { total = c.total + n; wide = or_wide c.wide n }

-- the same where the step is of the stage
abbrev pub with_step_if : (of_stage : Bool) → StageReads → (count : ℕ) → StageReads
with_step_if true c n = with_step c n
with_step_if false c n = c

-- what some steps read in all, and the first of them that reads too much
abbrev pub reads_of_steps : AttributeGrammar → Forest → List Instance → StageReads
reads_of_steps g t steps =
    record {
      total = sum_by (read_count g t) steps;
      wide = option_map (read_count g t) (find (λ i. nat_lt most_step_reads (read_count g t i)) steps);
    }

-- what the steps of a stage read among the first so many instances
abbrev pub reads_so_far : AttributeGrammar → Schedule → Forest → (stage cells : ℕ) → StageReads
reads_so_far g s t k cells = reads_of_steps g t (filter (is_of_stage g s k) (take cells (instances g t)))

-- the instances before a node's
abbrev pub cells_before : AttributeGrammar → Forest → (node : ℕ) → ℕ
cells_before g t n = sum_by (width_at g t) (take n (preorder t))

-- there is a count for each stage, of what its steps read among the first so many instances
pub record AreCounts (g : AttributeGrammar) (s : Schedule) (t : Forest) (cells : ℕ) (counts : List StageReads) :
    Type 0 where
  pub stages : length counts ≡ length s
  pub each : (k : ℕ) → k < length s → slice_index_or counts k no_reads ≡ reads_so_far g s t k cells

-- no step reads more than 268435712, so no count is past that many times the instances
abbrev pub HaveRoom : (cells : ℕ) → List StageReads → Type 0
HaveRoom cells counts = (k : ℕ) → k < length counts → (slice_index_or counts k no_reads).total ≤ cells * 268435712

-- the counts with one instance more
pub record AreFurther (g : AttributeGrammar) (s : Schedule) (t : Forest) (i : Instance) (old new : List StageReads)
    : Type 0 where
  pub stages : length new ≡ length old
  pub each : (k : ℕ) → k < length old
      → slice_index_or new k no_reads
      ≡ with_step_if (is_of_stage g s k i) (slice_index_or old k no_reads) (read_count g t i)

-- what is there tells of a stage that reads too much
abbrev pub many_by : List StageReads → (stage : ℕ) → Option PlanFault
many_by counts k = fault_past most_stage_reads (TooManyReads (k + 1)) (slice_index_or counts k no_reads).total

-- and of a step that does
abbrev pub wide_by : List StageReads → (stage : ℕ) → Option PlanFault
wide_by counts k = option_map (StepTooWide (k + 1)) (slice_index_or counts k no_reads).wide

-- no count is larger by more than what a step reads at most
abbrev pub AreLittleMore : (old new : List StageReads) → Type 0
AreLittleMore old new =
    (k : ℕ) → k < length old
    → (slice_index_or new k no_reads).total ≤ (slice_index_or old k no_reads).total + 268435712
