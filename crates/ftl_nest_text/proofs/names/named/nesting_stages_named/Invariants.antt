use Rattle.std.proofs.Common.{◌≡◌, drop}
use Rattle.ftl_deps.specs.reads.Meant.{meant}
use Rattle.ftl_schedule.specs.names.Named.{after, each}
use Rattle.ftl_nest_text.specs.names.NestNamed.{nesting_stage_named}
use Rattle.ftl_nest_text.specs.names.RegionTests.{region_tests}
use Rattle.ftl_nest_text.proofs.names.named.nesting_stages_named.Given as goal

abbrev pub invariant-loop-stage : goal.invariant-loop-stage
invariant-loop-stage l =
    after l.found
    (each (nesting_stage_named (region_tests (meant l.checked)) l.checked.grammar) (drop l.stage-index l.stages))
    ≡ each (nesting_stage_named (region_tests (meant l.checked)) l.checked.grammar) l.stages
