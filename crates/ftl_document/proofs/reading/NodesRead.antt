-- The nodes of a document that was read are those of the tree that is the answer.
use Rattle.std.proofs.Common.{◌≡◌, ◌≢◌, ℕ, refl, subst, Some, Result, Ok, Err}
use Rattle.std.specs.Prelude.{IfOk}
use Rattle.ftl_base.specs.Widths.{greatest_of_width}
use Rattle.ftl_tokens.specs.scanner.Tokenized.{WideTokenized}
use Rattle.ftl_meaning.specs.faults.Checked.{CheckedGrammar}
use Rattle.ftl_meaning.specs.grammars.GrammarOf.{grammar_of}
use Rattle.ftl_document.specs.syntax.Read.{IsDocument}
use Rattle.ftl_document.specs.syntax.Rows.{DocumentRows}
use Rattle.ftl_document.specs.syntax.Written.{WrittenNode}
use Rattle.ftl_document.specs.faults.DocumentTree.{tree_of}
use Rattle.ftl_document.specs.faults.FirstFault.{first_fault}
use Rattle.ftl_document.specs.faults.Within.{IsWithin}
use Rattle.ftl_document.specs.declared.faults.fault.DocFault.{DocFault}
use Rattle.ftl_document.specs.declared.faults.fault.DocFault.TheVariants as fault
use Rattle.ftl_document.specs.nodes.Found.{AreRowsOf, FindsFault, IsWritten}
use Rattle.ftl_document.specs.declared.nodes.all_nodes.DocumentNodes.{DocumentNodes}
use Rattle.ftl_tree.specs.rows.Rows.{AreNodesOf}
use Rattle.ftl_document.specs.reading.ReadNodes.{ReadsNodes}
use Rattle.ftl_document.specs.reading.ReadTree.{IsSpelled, ReadsTree, checked_tree}
use Rattle.ftl_document.proofs.reading.Widths.{fields_within}
use Rattle.ftl_document.proofs.reading.AnsweredFaults.{fault_answered}

module _ (c : CheckedGrammar) (s : WideTokenized) (width : s.greatest ≡ greatest_of_width c.width)
    (d : DocumentRows) (h : IsDocument s d) where
  -- the document was written
  pub written : IsWritten d
  written = record { node = h.node; is = h.is; few = h.count }

  spelled : IsSpelled s h.node
  spelled = record { spells = h.spells; shallow = h.shallow; few = h.few }

  within : IsWithin (greatest_of_width c.width) h.node
  within = subst (λ n. IsWithin n h.node) width (fields_within s.greatest h.node.fields h.inputs)

  -- what the walk over the document found is the answer
  pub nodes_read : (r : Result DocumentNodes DocFault)
      → ((node : WrittenNode) → AreRowsOf node d → FindsFault (first_fault c.grammar node) r)
      → ((node : WrittenNode) (greatest : ℕ) → AreRowsOf node d → IsWithin greatest node
      → IfOk r (λ nodes. AreNodesOf (grammar_of greatest c.grammar) (tree_of c.grammar node) nodes.rows.items
      nodes.inputs.items))
      → ReadsNodes c s r
  nodes_read (Ok nodes) exact are =
      record {
        tree = checked_tree c h.node;
        answer = record { node = h.node; spelled = spelled; none = exact h.node h.is; is = refl };
        nodes = are h.node (greatest_of_width c.width) h.is within;
      }
  nodes_read (Err x) exact are = by_memory x (exact h.node h.is)
    where
      by_memory : (x : DocFault) → (x ≢ fault.OutOfMemory → first_fault c.grammar h.node ≡ Some x)
          → ReadsTree c s (Err x)
      by_memory fault.OutOfMemory first = tt
      by_memory (fault.TooDeep at) first = fault_answered c s h.node (fault.TooDeep at) spelled (first (λ memory. cc))
      by_memory (fault.TooManyNodes count) first =
          fault_answered c s h.node (fault.TooManyNodes count) spelled (first (λ memory. cc))
      by_memory (fault.Syntax at) first = fault_answered c s h.node (fault.Syntax at) spelled (first (λ memory. cc))
      by_memory (fault.UnknownClass node name) first =
          fault_answered c s h.node (fault.UnknownClass node name) spelled (first (λ memory. cc))
      by_memory (fault.WrongInterface node class wanted) first =
          fault_answered c s h.node (fault.WrongInterface node class wanted) spelled (first (λ memory. cc))
      by_memory (fault.UnknownField node name) first =
          fault_answered c s h.node (fault.UnknownField node name) spelled (first (λ memory. cc))
      by_memory (fault.FieldTwice node name) first =
          fault_answered c s h.node (fault.FieldTwice node name) spelled (first (λ memory. cc))
      by_memory (fault.FieldForm node name) first =
          fault_answered c s h.node (fault.FieldForm node name) spelled (first (λ memory. cc))
      by_memory (fault.FieldOrder node name) first =
          fault_answered c s h.node (fault.FieldOrder node name) spelled (first (λ memory. cc))
      by_memory (fault.FieldMissing node name) first =
          fault_answered c s h.node (fault.FieldMissing node name) spelled (first (λ memory. cc))
      by_memory (fault.TooManyInstances count) first =
          fault_answered c s h.node (fault.TooManyInstances count) spelled (first (λ memory. cc))
