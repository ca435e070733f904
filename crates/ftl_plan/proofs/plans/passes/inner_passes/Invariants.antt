use Rattle.std.proofs.Common.{◌≡◌, ◌++◌, drop, map}
use Rattle.ftl_schedule.specs.stages.Stages.{pass_of}
use Rattle.ftl_nest_check.specs.flat.FlatStages.{stages_in}
use Rattle.ftl_host_cursors.specs.HostLaws.{passes_in_order}
use Rattle.ftl_plan.proofs.plans.passes.inner_passes.Given as goal

abbrev pub invariant-loop-stage : goal.invariant-loop-stage
invariant-loop-stage l =
    map pass_of l.all.items ++ passes_in_order (stages_in (drop l.stage l.stages))
    ≡ passes_in_order (stages_in l.stages)
