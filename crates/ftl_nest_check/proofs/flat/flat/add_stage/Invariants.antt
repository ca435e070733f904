use Rattle.std.proofs.Common.{◌≡◌, ◌++◌, drop, map}
use Rattle.ftl_nests.specs.Flat.{flat_stage}
use Rattle.ftl_nest_check.specs.flat.FlatStages.{stages_in}
use Rattle.ftl_nest_check.specs.stages.Nested.{nesting_pass_of}
use Rattle.ftl_nest_check.proofs.flat.flat.add_stage.Given as goal

abbrev pub invariant-loop-pass : goal.invariant-loop-pass
invariant-loop-pass l =
    stages_in l.stages ++ flat_stage (map nesting_pass_of (drop l.pass l.passes))
    ≡ stages_in l.initial.stages ++ flat_stage (map nesting_pass_of l.passes)
