-- How much the steps of a stage read.
use Rattle.std.specs.Prelude.{ℕ, nat_lt, ◌==◌, ◌&&◌, Bool, not, List, filter, length, sum_by, Option}
use Rattle.std.specs.List.{find}
use Rattle.ftl_model.specs.layout.AttributeGrammar.{AttributeGrammar, is_input}
use Rattle.ftl_model.specs.layout.Solves.{Instance}
use Rattle.ftl_model.specs.layout.Table.{instances}
use Rattle.ftl_model.specs.layout.Tree.{Forest}
use Rattle.ftl_order.specs.orders.Reads.{reads_of}
use Rattle.ftl_order.specs.orders.Schedule.{Schedule, placing_of}

-- an instance is computed in this stage
abbrev pub is_of_stage : AttributeGrammar → Schedule → (stage : ℕ) → Instance → Bool
is_of_stage g s stage i = not (is_input (g.sort i.attribute)) && ((placing_of s i.attribute).stage == stage)

-- the steps of a stage, in the order of instances
abbrev pub steps_of_stage : AttributeGrammar → Forest → Schedule → (stage : ℕ) → List Instance
steps_of_stage g t s stage = filter (is_of_stage g s stage) (instances g t)

-- how much a step reads
abbrev pub read_count : AttributeGrammar → Forest → Instance → ℕ
read_count g t i = length (reads_of g t i)

-- how much all steps of a stage read
abbrev pub stage_read_count : AttributeGrammar → Forest → Schedule → (stage : ℕ) → ℕ
stage_read_count g t s stage = sum_by (read_count g t) (steps_of_stage g t s stage)

-- the first step of a stage that reads more than so much, in the order of instances
abbrev pub first_wide_step : AttributeGrammar → Forest → Schedule → (stage limit : ℕ) → Option Instance
first_wide_step g t s stage limit =
    find (λ i. nat_lt limit (read_count g t i)) (steps_of_stage g t s stage)
