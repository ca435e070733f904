use Rattle.std.proofs.Common.{subst}
use Rattle.ftl_grammar.specs.reading.Readable.{CanBeRead}
use Rattle.ftl_meaning.specs.faults.Checked.{CheckedGrammar}
use Rattle.ftl_document_printing.proofs.trees.print.is_read_back.Goals as goal

pub returns : goal.returns
returns c =
    let t = c.args.tree.now in
    let readable = subst (λ (k : CheckedGrammar). CanBeRead k.grammar) c.checked.ensures.grammar
    c.grammar-readable.ensures.readable in
    record {
      read_back =
          λ scanned read.
          c.read_documents.ensures.read_back t.checked scanned t c.tree_is_lawful.ensures.faultless.faults readable
          c.tree_is_lawful.ensures.is_tree read;
    }
