use Rattle.std.proofs.Common.{◌∙◌, ap, subst, string_bytes}
use Rattle.ftl_document.specs.faults.WrittenOf.{written_of}
use Rattle.ftl_document.specs.reading.ReadTree.{IsTreeRead}
use Rattle.ftl_document_printing.specs.round_trip.ReadBack.{IsReadBack}
use Rattle.ftl_document_printing.specs.text.DocumentText.{document_text}
use Rattle.ftl_tokens.specs.scanner.Tokenized.{WideTokenized}
use Rattle.ftl_tree.specs.trees.CheckedTree.{CheckedTree}
use Rattle.maugzeris.proofs.rules.ReadBack.{document_back}
use Rattle.maugzeris.proofs.pages.page.Page.document.Goals as goal

pub returns-clause-read_back : goal.returns-clause-read_back
returns-clause-read_back c = λ text came.
    let p = c.args.self.now in
    let printed = string_bytes c.in_ok-print_document.field-0 in
    document_back p.checked p.tree text printed
    (subst
    (λ (t : CheckedTree). (scanned : WideTokenized) → IsTreeRead t.checked scanned t
    → IsReadBack t.checked t.tree printed) c.tree.ensures.tree c.in_ok-print_document.ensures.read_back) came
