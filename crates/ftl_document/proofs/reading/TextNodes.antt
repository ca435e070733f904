-- The nodes of a document that was read from the bytes of a text.
use Rattle.std.proofs.Common.{◌≡◌, ℕ, List, Ok, refl, subst, inl, inr}
use Rattle.ftl_base.specs.Widths.{greatest_of_width}
use Rattle.ftl_base.specs.declared.width.Width.{Width}
use Rattle.ftl_base.specs.declared.width.Width.TheVariants.{Narrow, Wide}
use Rattle.ftl_tokens.specs.scanner.Tokenized.{IsGreatestNumber, WideTokenized}
use Rattle.ftl_meaning.specs.faults.Checked.{CheckedGrammar}
use Rattle.ftl_meaning.specs.grammars.GrammarOf.{grammar_of}
use Rattle.ftl_tree.specs.rows.Rows.{AreNodesOf}
use Rattle.ftl_document.specs.declared.nodes.all_nodes.DocumentNodes.{DocumentNodes}
use Rattle.ftl_document.specs.faults.DocumentTree.{tree_of}
use Rattle.ftl_document.specs.faults.FirstFault.{first_fault}
use Rattle.ftl_document.specs.faults.Within.{IsWithin}
use Rattle.ftl_document.specs.nodes.Found.{AreRowsOf, FindsFault, IsWritten}
use Rattle.ftl_document.specs.plain.Read.{IsReadFrom}
use Rattle.ftl_document.specs.reading.OfText.{AreNodesOfText}
use Rattle.ftl_document.specs.syntax.Rows.{DocumentRows}
use Rattle.ftl_document.specs.syntax.Written.{WrittenNode}
use Rattle.ftl_document.proofs.reading.NodesRead.{nodes_read}

-- the greatest number of a width is one of a scan
pub width_scans : (greatest : ℕ) (w : Width) → greatest ≡ greatest_of_width w → IsGreatestNumber greatest
width_scans greatest Narrow is = inl is
width_scans greatest Wide is = inr is

-- the document was written
pub text_written : (greatest : ℕ) (text : List ℕ) (d : DocumentRows) → IsReadFrom greatest text d → IsWritten d
text_written greatest text d read = record { node = read.reads.node; is = read.reads.is; few = read.reads.count }

-- what the walk found of it are the nodes of its tree
pub text_nodes : (c : CheckedGrammar) (greatest : ℕ) (text : List ℕ) (d : DocumentRows) (found : DocumentNodes)
    → greatest ≡ greatest_of_width c.width → IsReadFrom greatest text d
    → ((node : WrittenNode) → AreRowsOf node d → FindsFault {A = DocumentNodes} (first_fault c.grammar node) (Ok found))
    → ((node : WrittenNode) (most : ℕ) → AreRowsOf node d → IsWithin most node
    → AreNodesOf (grammar_of most c.grammar) (tree_of c.grammar node) found.rows.items found.inputs.items)
    → AreNodesOfText c text found
text_nodes c greatest text d found width read exact are =
    let of_width = subst (λ n. IsReadFrom n text d) width read in
    let s : WideTokenized = record {
      tokenized = record { text = text; tokens = of_width.tokens };
      greatest = greatest_of_width c.width;
    } in
    let all = nodes_read c s refl d of_width.reads (Ok found) exact are in
    record {
      tree = all.tree;
      of_text = record { tokens = of_width.tokens; scanned = of_width.scanned; reads = all.answer };
      nodes = all.nodes;
    }
