use Rattle.std.proofs.Common.{◌≡◌, drop}
use Rattle.ftl_page.specs.sections.Lines.{is_stray}
use Rattle.ftl_page.proofs.sections.line.is_stray.Given as goal

abbrev pub invariant-loop-b : goal.invariant-loop-b
invariant-loop-b l = is_stray l.line ≡ is_stray (drop l.b-index l.line)
