use Rattle.std.proofs.Common.{◌≡◌, ◌++◌, drop, map}
use Rattle.ftl_schedule.specs.stages.Stages.{pass_of}
use Rattle.ftl_plan.proofs.plans.passes.add_passes.Given as goal

abbrev pub invariant-loop-pass : goal.invariant-loop-pass
invariant-loop-pass l =
    map pass_of l.all.items ++ map pass_of (drop l.pass l.passes)
    ≡ map pass_of l.initial.all.items ++ map pass_of l.passes
