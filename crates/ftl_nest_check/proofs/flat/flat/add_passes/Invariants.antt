use Rattle.std.proofs.Common.{◌≡◌, ◌++◌, drop, map}
use Rattle.ftl_schedule.specs.stages.Stages.{pass_of}
use Rattle.ftl_nests.specs.Flat.{alone_stage}
use Rattle.ftl_nest_check.specs.flat.FlatStages.{stages_in}
use Rattle.ftl_nest_check.proofs.flat.flat.add_passes.Given as goal

abbrev pub invariant-loop-pass : goal.invariant-loop-pass
invariant-loop-pass l =
    stages_in l.stages ++ alone_stage (map pass_of (drop l.pass l.passes))
    ≡ stages_in l.initial.stages ++ alone_stage (map pass_of l.passes)
