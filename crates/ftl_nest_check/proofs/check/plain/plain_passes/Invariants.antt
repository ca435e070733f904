use Rattle.std.proofs.Common.{◌≡◌, ◌++◌, drop, map}
use Rattle.ftl_schedule.specs.stages.Stages.{pass_of}
use Rattle.ftl_nests.specs.Flat.{plain_stage}
use Rattle.ftl_nest_check.specs.stages.Nested.{nesting_pass_of}
use Rattle.ftl_nest_check.proofs.check.plain.plain_passes.Given as goal

abbrev pub invariant-loop-pass : goal.invariant-loop-pass
invariant-loop-pass l =
    map nesting_pass_of l.passes ++ plain_stage (map pass_of (drop l.pass l.all))
    ≡ plain_stage (map pass_of l.all)
