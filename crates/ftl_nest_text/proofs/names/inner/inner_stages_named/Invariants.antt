use Rattle.std.proofs.Common.{◌≡◌, drop}
use Rattle.ftl_deps.specs.reads.Meant.{meant}
use Rattle.ftl_schedule.specs.names.Named.{after, each}
use Rattle.ftl_nest_text.specs.names.NestNamed.{inner_stage_named}
use Rattle.ftl_nest_text.specs.names.RegionTests.{region_tests}
use Rattle.ftl_nest_text.proofs.names.inner.inner_stages_named.Given as goal

abbrev pub invariant-loop-stage : goal.invariant-loop-stage
invariant-loop-stage l =
    after l.found
    (each (inner_stage_named (region_tests (meant l.checked)) l.checked.grammar l.host) (drop l.stage-index l.stages))
    ≡ each (inner_stage_named (region_tests (meant l.checked)) l.checked.grammar l.host) l.stages
