-- Some stages without nests, by what they stand for.
use Rattle.std.specs.Prelude.{List, map}
use Rattle.ftl_order.specs.orders.Schedule as order
use Rattle.ftl_schedule.specs.stages.Stages.{pass_of}
use Rattle.ftl_schedule.specs.declared.stages.types.Stage.{Stage}

-- some stages
abbrev pub stages_in : List Stage → order.Schedule
stages_in stages = map (λ (stage : Stage). map pass_of stage.passes) stages
