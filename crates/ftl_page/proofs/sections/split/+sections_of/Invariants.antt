use Rattle.std.proofs.Common.{length}
use Rattle.ftl_page.proofs.sections.split.+sections_of.Given as goal

abbrev pub decreases-sections_of : goal.decreases-sections_of
decreases-sections_of l = length l.text.now
