use Rattle.std.proofs.Common.{sym}
use Rattle.ftl_document.proofs.syntax.SizeLemmas.{document-opened}
use Rattle.ftl_document.proofs.syntax.Shallow.{low_document}
use Rattle.ftl_document_printing.proofs.text.laws.shallow_documents.Goals as goal

pub returns : goal.returns
returns c = record { shallow = low_document; opened = λ ts node spells. sym (document-opened spells) }
