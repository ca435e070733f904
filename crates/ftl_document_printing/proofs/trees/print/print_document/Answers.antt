use Rattle.std.proofs.Common.{ap, subst, sym, ◌∙◌, ◌++◌, ℕ, List}
use Rattle.ftl_document.specs.faults.WrittenOf.{written_of}
use Rattle.ftl_document_printing.specs.round_trip.ReadBack.{IsReadBack}
use Rattle.ftl_document_printing.specs.text.DocumentText.{document_text}
use Rattle.ftl_document_printing.proofs.trees.print.print_document.Goals as goal

pub returns-clause-read_back : goal.returns-clause-read_back
returns-clause-read_back c =
    let t = c.args.tree.now in
    let text = document_text (written_of t.checked.grammar t.tree) in
    λ scanned read.
    subst (IsReadBack t.checked t.tree)
    (sym (c.in_ok-write_nodes.ensures.text ∙ ap (λ (b : List ℕ). b ++ text) c.new-out.ensures.bytes))
    (c.is_read_back.ensures.read_back scanned read)
