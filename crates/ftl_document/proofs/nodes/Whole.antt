-- The rows and inputs of a walk that has ended are those of the document's tree.
use Rattle.std.proofs.Common.{◌≡◌, ℕ, ◌≤◌, sym, ◌∙◌, arith, None}
use Rattle.ftl_grammar.specs.declared.syntax.rules.Grammar.{Grammar}
use Rattle.ftl_meaning.specs.faults.FirstFault as grammars
use Rattle.ftl_meaning.specs.grammars.GrammarOf.{grammar_of}
use Rattle.ftl_document.specs.syntax.Rows.{DocumentRows}
use Rattle.ftl_document.specs.syntax.Written.{WrittenNode}
use Rattle.ftl_document.specs.faults.DocumentTree.{tree_of}
use Rattle.ftl_document.specs.faults.Nodes.{class_number}
use Rattle.ftl_document.specs.faults.Within.{IsWithin}
use Rattle.ftl_document.proofs.faults.InstanceCounts.{instances_counted}
use Rattle.ftl_document.proofs.faults.RightTrees.{faultless_is_tree}
use Rattle.ftl_tree.specs.rows.Rows.{AreNodesOf}
use Rattle.ftl_document.specs.nodes.Found.{AreRowsOf, IsWritten}
use Rattle.ftl_document.specs.nodes.Walk.{IsWhole}
use Rattle.ftl_document.specs.declared.nodes.progress.Progress.{Progress}
use Rattle.ftl_document.proofs.nodes.Roots.{same_count}
use Rattle.ftl_document.proofs.nodes.WrittenRows.{inputs_of_tree, rows_of_tree, trees_counted}

module _ (g : Grammar) (lawful : grammars.first_fault g ≡ None) (d : DocumentRows) (written : IsWritten d)
    (node : WrittenNode) (is : AreRowsOf node d) (p : Progress) (h : IsWhole g node p) where
  pub whole_nodes : (greatest : ℕ) → IsWithin greatest node → p.count ≤ 33554432
      → AreNodesOf (grammar_of greatest g) (tree_of g node) p.rows.items p.inputs.items
  whole_nodes greatest within few =
      let trees = trees_counted g (class_number g node.class) node.fields in
      let same = same_count d node written.node is written.is in
      let most = written.few in
      let counted = instances_counted g greatest node in
      let count = h.count in (
        record {
          is_tree = faultless_is_tree greatest g lawful node h.none within;
          rows_are = h.node_rows ∙ sym (rows_of_tree g node h.none);
          few_nodes = omega (arith, trees, same, most);
          few_instances = omega (arith, counted, count, few);
        },
        h.inputs ∙ sym (inputs_of_tree g node),
      )
