-- The schedule with nests that stages by number stand for.
use Rattle.std.specs.Prelude.{◌≡◌, ◌≤◌, ◌+◌, ℕ, List, map, length, Option, None}
use Rattle.std.specs.List.{All, sum_by}
use Rattle.std.specs.Option.{option_map}
use Rattle.ftl_model.specs.layout.AttributeGrammar.{AttributeGrammar}
use Rattle.ftl_schedule.specs.stages.PassLimits.{HasFewPasses}
use Rattle.ftl_schedule.specs.stages.Stages.{kind_of, stages_of}
use Rattle.ftl_order.specs.orders.Schedule.{inorder}
use Rattle.ftl_nests.specs.Nests as nests
use Rattle.ftl_nests.specs.Nests.{AreSidesKept, NestingSchedule as NestingStages, inner_stages, nesting_pass}
use Rattle.ftl_nest_check.specs.declared.stages.types.Nest.{Nest}
use Rattle.ftl_nest_check.specs.declared.stages.types.NestingPass.{NestingPass}
use Rattle.ftl_nest_check.specs.declared.stages.types.NestingStage.{NestingStage}
use Rattle.ftl_nest_check.specs.declared.stages.types.NestingSchedule.{NestingSchedule}

-- what a pass nests
abbrev pub nest_of : Nest → nests.Nest
nest_of nest = record { host = nest.host; stages = stages_of nest.inner }

-- one pass
abbrev pub nesting_pass_of : NestingPass → nests.NestingPass
nesting_pass_of pass =
    record { kind = kind_of pass.kind; attributes = pass.attrs; nest = option_map nest_of pass.nest }

-- the stages, each a list of passes
abbrev pub nests_of : NestingSchedule → NestingStages
nests_of s = map (λ (stage : NestingStage). map nesting_pass_of stage.passes) s.stages

-- ---- what is asked of each schedule that is read or accepted

-- how many passes a pass is, with those that it nests
abbrev pub passes_with : nests.NestingPass → ℕ
passes_with pass = 1 + sum_by length (inner_stages pass.nest)

-- a stage of one pass at least, and of 4 at most, and so is each inner one
pub record HasFewNestingPasses (passes : List nests.NestingPass) : Type 0 where
  pub some : 1 ≤ length passes
  pub few : length passes ≤ 4
  pub inner : All (λ (pass : nests.NestingPass). All HasFewPasses (inner_stages pass.nest)) passes

-- 2048 passes in all at most, inner ones too, one to 4 in each stage and in each inner stage
pub record IsWithinNestLimits (s : NestingStages) : Type 0 where
  pub all : sum_by (sum_by passes_with) s ≤ 2048
  pub each : All HasFewNestingPasses s

-- each nest is closed and has its attributes on the right sides, and no inorder pass has one
pub record AreNestsKept (g : AttributeGrammar) (s : NestingStages) : Type 0 where
  pub sides : AreSidesKept g s
  pub inorder_has_none : (m n : ℕ) → (nesting_pass s m n).kind ≡ inorder → (nesting_pass s m n).nest ≡ None
