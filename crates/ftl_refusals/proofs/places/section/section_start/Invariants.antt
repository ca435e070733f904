use Rattle.std.proofs.Common.{length}
use Rattle.ftl_refusals.proofs.places.SectionLemmas.{IsRest}
use Rattle.ftl_refusals.proofs.places.section.section_start.Given as goal

abbrev pub invariant-loop-rest : goal.invariant-loop-rest
invariant-loop-rest l = IsRest l.file l.rest

abbrev pub decreases-loop-rest : goal.decreases-loop-rest
decreases-loop-rest l = length l.rest
