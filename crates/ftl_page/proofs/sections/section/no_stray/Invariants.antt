use Rattle.std.proofs.Common.{length}
use denote.Text.{Utf8}
use denote.Shadow.{shadow}
use Rattle.ftl_page.proofs.sections.StrayLemmas.{StrayAhead}
use Rattle.ftl_page.proofs.sections.section.no_stray.Given as goal

abbrev pub invariant-loop-rest : goal.invariant-loop-rest
invariant-loop-rest l = record {
  is_text : shadow (Utf8 l.rest);
  stray : StrayAhead l.initial.number l.number l.text l.rest;
}

abbrev pub decreases-loop-rest : goal.decreases-loop-rest
decreases-loop-rest l = length l.rest
