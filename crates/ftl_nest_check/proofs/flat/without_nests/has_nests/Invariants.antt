use Rattle.std.proofs.Common.{◌≡◌, drop}
use Rattle.ftl_nest_check.specs.check.WithoutNests.{has_nests}
use Rattle.ftl_nest_check.specs.stages.Nested.{nests_of}
use Rattle.ftl_nest_check.proofs.flat.without_nests.has_nests.Given as goal

abbrev pub invariant-loop-stage : goal.invariant-loop-stage
invariant-loop-stage l =
    has_nests (nests_of (record { stages = drop l.stage l.all })) ≡ has_nests (nests_of l.schedule)
