use Rattle.std.proofs.Common.{◌≡◌, ◌++◌, drop}
use Rattle.ftl_nests.specs.Flat.{flat_schedule}
use Rattle.ftl_nest_check.specs.flat.FlatStages.{stages_in}
use Rattle.ftl_nest_check.specs.stages.Nested.{nests_of}
use Rattle.ftl_nest_check.proofs.flat.flat.flat_of.Given as goal

abbrev pub invariant-loop-stage : goal.invariant-loop-stage
invariant-loop-stage l =
    stages_in l.stages ++ flat_schedule (nests_of (record { stages = drop l.stage l.all }))
    ≡ flat_schedule (nests_of l.schedule)
