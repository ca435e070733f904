use Rattle.std.proofs.Common.{◌≡◌, ◌++◌, drop}
use Rattle.ftl_nests.specs.Flat.{each_alone}
use Rattle.ftl_nest_check.specs.flat.FlatStages.{stages_in}
use Rattle.ftl_nest_check.proofs.flat.flat.add_inner.Given as goal

abbrev pub invariant-loop-stage : goal.invariant-loop-stage
invariant-loop-stage l =
    stages_in l.stages ++ each_alone (stages_in (drop l.stage l.inner))
    ≡ stages_in l.initial.stages ++ each_alone (stages_in l.inner)
