use Rattle.ftl_document_printing.proofs.text.SpelledDocument.{canonical}
use Rattle.ftl_document_printing.proofs.text.laws.canonical_documents.Goals as goal

pub returns : goal.returns
returns c = record { spells = canonical }
