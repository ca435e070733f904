use Rattle.std.proofs.Common.{◌≡◌, ◌++◌, drop}
use Rattle.ftl_nests.specs.Flat.{plain}
use Rattle.ftl_nest_check.specs.flat.FlatStages.{stages_in}
use Rattle.ftl_nest_check.specs.stages.Nested.{nests_of}
use Rattle.ftl_nest_check.proofs.check.plain.plain_of.Given as goal

abbrev pub invariant-loop-stage : goal.invariant-loop-stage
invariant-loop-stage l =
    nests_of (record { stages = l.stages }) ++ plain (stages_in (drop l.stage l.all))
    ≡ plain (stages_in l.all)
