use Rattle.ftl_page.proofs.sections.BodyLemmas.{joined-lines_of}
use Rattle.ftl_page.proofs.sections.laws.law_of_lines.Goals as goal

pub returns : goal.returns
returns c = record { joined = joined-lines_of }
