use Rattle.std.proofs.Common.{◌≡◌, ◌++◌, drop, map}
use Rattle.ftl_nests.specs.Nests.{outer_schedule}
use Rattle.ftl_nest_check.specs.flat.FlatStages.{stages_in}
use Rattle.ftl_nest_check.specs.stages.Nested.{nesting_pass_of, nests_of}
use Rattle.ftl_nest_check.proofs.places.outer.outer_of.Given as goal

abbrev pub invariant-loop-stage : goal.invariant-loop-stage
invariant-loop-stage l =
    stages_in l.stages ++ outer_schedule (nests_of (record { stages = drop l.stage l.all }))
    ≡ outer_schedule (nests_of l.schedule)
