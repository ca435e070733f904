use Rattle.std.proofs.Common.{◌≡◌, drop}
use Rattle.ftl_deps.specs.reads.Meant.{meant}
use Rattle.ftl_schedule.specs.names.Named.{after, each}
use Rattle.ftl_nest_text.specs.names.NestNamed.{inner_number}
use Rattle.ftl_nest_text.specs.names.RegionTests.{region_tests}
use Rattle.ftl_nest_text.proofs.names.inner.inner_attributes_named.Given as goal

abbrev pub invariant-loop-name : goal.invariant-loop-name
invariant-loop-name l =
    after l.found
    (each (inner_number (region_tests (meant l.checked)) l.checked.grammar l.host) (drop l.name-index l.names))
    ≡ each (inner_number (region_tests (meant l.checked)) l.checked.grammar l.host) l.names
