-- The same answer by the nodes of the tree in rows, before the tree is made.
use Rattle.std.specs.Prelude.{Result, Ok, Err}
use Rattle.ftl_tokens.specs.scanner.Tokenized.{WideTokenized}
use Rattle.ftl_meaning.specs.faults.Checked.{CheckedGrammar}
use Rattle.ftl_deps.specs.reads.Meant.{meant}
use Rattle.ftl_document.specs.declared.syntax.fault.WrittenDocumentFault.{WrittenDocumentFault}
use Rattle.ftl_document.specs.declared.syntax.fault.WrittenDocumentFault.TheVariants as written
use Rattle.ftl_document.specs.declared.faults.fault.DocFault.{DocFault}
use Rattle.ftl_document.specs.declared.faults.fault.DocFault.TheVariants as fault
use Rattle.ftl_document.specs.declared.nodes.all_nodes.DocumentNodes.{DocumentNodes}
use Rattle.ftl_tree.specs.trees.CheckedTree.{CheckedTree}
use Rattle.ftl_tree.specs.rows.Rows.{AreNodesOf}
use Rattle.ftl_document.specs.reading.ReadTree.{ReadsTree}

-- a fault of the text as one of the document
abbrev pub as_document_fault : WrittenDocumentFault → DocFault
as_document_fault (written.TooDeep at) = fault.TooDeep at
as_document_fault (written.TooManyNodes count) = fault.TooManyNodes count
as_document_fault (written.Syntax at) = fault.Syntax at
as_document_fault written.OutOfMemory = fault.OutOfMemory

-- the nodes are those of the tree that is the answer
pub record AreNodesRead (c : CheckedGrammar) (scanned : WideTokenized) (read : DocumentNodes) : Type 0 where
  pub tree : CheckedTree
  pub answer : ReadsTree c scanned (Ok tree)
  pub nodes : AreNodesOf (meant c) tree.tree read.rows.items read.inputs.items

-- nodes or a fault, as the answer is
abbrev pub ReadsNodes : CheckedGrammar → WideTokenized → Result DocumentNodes DocFault → Type 0
ReadsNodes c scanned (Ok nodes) = AreNodesRead c scanned nodes
ReadsNodes c scanned (Err x) = ReadsTree c scanned (Err x)
