-- What is promised of a tree that is read from the bytes of a text.
use Rattle.std.specs.Prelude.{◌≡◌, ℕ, List, Ok}
use Rattle.ftl_base.specs.Widths.{greatest_of_width}
use Rattle.ftl_tokens.specs.declared.scanner.kind.Token.{Token}
use Rattle.ftl_tokens.specs.scanner.Scan.{scan}
use Rattle.ftl_meaning.specs.faults.Checked.{CheckedGrammar}
use Rattle.ftl_deps.specs.reads.Meant.{meant}
use Rattle.ftl_tree.specs.rows.Rows.{AreNodesOf}
use Rattle.ftl_tree.specs.trees.CheckedTree.{CheckedTree}
use Rattle.ftl_document.specs.declared.nodes.all_nodes.DocumentNodes.{DocumentNodes}
use Rattle.ftl_document.specs.reading.ReadTree.{ReadsTree}

-- the text has no fault of its tokens, whose numbers have the grammar's width, and this is the tree that they mean
pub record IsTreeOfText (c : CheckedGrammar) (text : List ℕ) (t : CheckedTree) : Type 0 where
  pub tokens : List Token
  pub scanned : scan (greatest_of_width c.width) text ≡ Ok tokens
  pub reads : ReadsTree c
      (record { tokenized = record { text = text; tokens = tokens }; greatest = greatest_of_width c.width }) (Ok t)

-- the nodes are those of such a tree
pub record AreNodesOfText (c : CheckedGrammar) (text : List ℕ) (read : DocumentNodes) : Type 0 where
  pub tree : CheckedTree
  pub of_text : IsTreeOfText c text tree
  pub nodes : AreNodesOf (meant c) tree.tree read.rows.items read.inputs.items
