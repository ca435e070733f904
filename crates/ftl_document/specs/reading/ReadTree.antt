-- What the reader of documents answers: the tree that the tokens mean by a grammar, or the first fault.
use Rattle.std.specs.Prelude.{◌≡◌, ◌≤◌, Some, None, Result, Ok, Err}
use Rattle.ftl_tokens.specs.scanner.Tokenized.{WideTokenized, symbols_of}
use Rattle.ftl_meaning.specs.faults.Checked.{CheckedGrammar}
use Rattle.ftl_model.specs.layout.Limits.{most_nodes}
use Rattle.ftl_document.specs.syntax.Read.{IsNotTooDeep, ReadsDocument, opened_in}
use Rattle.ftl_document.specs.syntax.Spelling.{SpellsNode}
use Rattle.ftl_document.specs.syntax.Written.{WrittenNode}
use Rattle.ftl_document.specs.declared.syntax.fault.WrittenDocumentFault.TheVariants as written
use Rattle.ftl_document.specs.faults.DocumentTree.{tree_of}
use Rattle.ftl_document.specs.faults.FirstFault.{first_fault}
use Rattle.ftl_document.specs.declared.faults.fault.DocFault.{DocFault}
use Rattle.ftl_document.specs.declared.faults.fault.DocFault.TheVariants as fault
use Rattle.ftl_tree.specs.trees.CheckedTree.{CheckedTree}

-- within the limits on braces, the tokens spell this document
pub record IsSpelled (scanned : WideTokenized) (node : WrittenNode) : Type 0 where
  pub spells : SpellsNode (symbols_of scanned.tokenized) node
  pub shallow : IsNotTooDeep scanned.tokenized
  pub few : opened_in scanned.tokenized ≤ most_nodes

-- the tree that a document means, with the grammar
abbrev pub checked_tree : CheckedGrammar → WrittenNode → CheckedTree
checked_tree c node = record { checked = c; tree = tree_of c.grammar node }

-- the tokens spell a document without a fault, and this is the tree that it means
pub record IsTreeRead (c : CheckedGrammar) (scanned : WideTokenized) (t : CheckedTree) : Type 0 where
  pub node : WrittenNode
  pub spelled : IsSpelled scanned node
  pub none : first_fault c.grammar node ≡ None
  pub is : t ≡ checked_tree c node

-- the tokens spell a document, and this is its first fault
pub record IsFaultOfNodes (c : CheckedGrammar) (scanned : WideTokenized) (x : DocFault) : Type 0 where
  pub node : WrittenNode
  pub spelled : IsSpelled scanned node
  pub first : first_fault c.grammar node ≡ Some x

-- the tree is the one that the tokens mean, and a fault is the first: of the text, then of the nodes
abbrev pub ReadsTree : CheckedGrammar → WideTokenized → Result CheckedTree DocFault → Type 0
ReadsTree c scanned (Ok t) = IsTreeRead c scanned t
ReadsTree c scanned (Err (fault.TooDeep at)) = ReadsDocument scanned (Err (written.TooDeep at))
ReadsTree c scanned (Err (fault.TooManyNodes count)) = ReadsDocument scanned (Err (written.TooManyNodes count))
ReadsTree c scanned (Err (fault.Syntax at)) = ReadsDocument scanned (Err (written.Syntax at))
ReadsTree c scanned (Err fault.OutOfMemory) = Unit {0}
ReadsTree c scanned (Err x) = IsFaultOfNodes c scanned x
