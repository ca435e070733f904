use Rattle.std.proofs.Common.{◌≡◌, drop}
use Rattle.ftl_deps.specs.reads.Meant.{meant}
use Rattle.ftl_schedule.specs.names.Named.{after, each}
use Rattle.ftl_nest_text.specs.names.NestNamed.{nesting_pass_named}
use Rattle.ftl_nest_text.specs.names.RegionTests.{region_tests}
use Rattle.ftl_nest_text.proofs.names.named.nesting_passes_named.Given as goal

abbrev pub invariant-loop-pass : goal.invariant-loop-pass
invariant-loop-pass l =
    after l.found
    (each (nesting_pass_named (region_tests (meant l.checked)) l.checked.grammar) (drop l.pass-index l.passes))
    ≡ each (nesting_pass_named (region_tests (meant l.checked)) l.checked.grammar) l.passes
