-- A stage is lawful work, within limits on counts.
use Rattle.std.specs.Prelude.{◌≡◌, ℕ, ◌^◌, ◌<◌, ◌≤◌, List, length, slice_index_or}
use Rattle.ftl_cells.specs.shared.Shape.{listed}
use Rattle.ftl_cells.specs.shared.Work.{IsLawfulWork}
use Rattle.ftl_model.specs.layout.AttributeGrammar.{AttributeGrammar}
use Rattle.ftl_model.specs.layout.Solves.{Instance}
use Rattle.ftl_model.specs.layout.Table.{instance_count}
use Rattle.ftl_model.specs.layout.Tree.{Forest}
use Rattle.ftl_model.specs.layout.Values.{IsValue, Value, overflow}
use Rattle.ftl_order.specs.orders.LegalOrder.{IsStep}
use Rattle.ftl_order.specs.orders.Reads.{reads_of}
use Rattle.ftl_order.specs.orders.Schedule.{Schedule, placing_of}
use Rattle.ftl_items.specs.stage_items.StageWork.{stage_items, stage_work}

-- the values are in range, cells and items have numbers of 32 bits, and no step of the stage reads more than so much
pub record IsWithinLimits (g : AttributeGrammar) (s : Schedule) (t : Forest) (grain stage : ℕ) (solution : List Value)
    (max_reads : ℕ) : Type 0 where
  pub values : (c : ℕ) → c < instance_count g t → IsValue (slice_index_or solution c overflow)
  pub cells : instance_count g t < 2 ^ 32
  pub items : length (stage_items g s t grain stage) < 2 ^ 32
  pub reads : (i : Instance) → IsStep g t i → (placing_of s i.attribute).stage ≡ stage
      → length (reads_of g t i) ≤ max_reads
  pub few : max_reads < 2 ^ 32

-- a stage is lawful work
abbrev pub StagesAreLawfulWork : AttributeGrammar → Schedule → Forest → (grain stage : ℕ) → Type 0
StagesAreLawfulWork g s t grain stage =
    (solution : List Value) (max_reads max_stack : ℕ) → IsWithinLimits g s t grain stage solution max_reads
    → IsLawfulWork (listed (stage_work g s t grain stage solution max_reads max_stack))
