use Rattle.ftl_document.proofs.syntax.Documents.{one_document}
use Rattle.ftl_document.proofs.syntax.laws.one_written_document.Goals as goal

pub returns : goal.returns
returns c = record { same = one_document }
