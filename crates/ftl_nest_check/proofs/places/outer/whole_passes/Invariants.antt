use Rattle.std.proofs.Common.{◌≡◌, ◌++◌, drop, map}
use Rattle.ftl_schedule.specs.stages.Stages.{pass_of}
use Rattle.ftl_nests.specs.Nests.{whole_stage}
use Rattle.ftl_nest_check.specs.stages.Nested.{nesting_pass_of}
use Rattle.ftl_nest_check.proofs.places.outer.whole_passes.Given as goal

abbrev pub invariant-loop-pass : goal.invariant-loop-pass
invariant-loop-pass l =
    map pass_of l.passes ++ whole_stage (map nesting_pass_of (drop l.pass l.all))
    ≡ whole_stage (map nesting_pass_of l.all)
