-- What follows of a document's first fault.
use Rattle.std.specs.Prelude.{◌≡◌, ℕ, Some, None}
use Rattle.ftl_model.specs.layout.Table.{instance_count}
use Rattle.ftl_model.specs.layout.Tree.{Forest}
use Rattle.ftl_model.specs.layout.TreeOf.{IsTreeOf}
use Rattle.ftl_grammar.specs.declared.syntax.rules.Grammar.{Grammar}
use Rattle.ftl_meaning.specs.faults.FirstFault as grammars
use Rattle.ftl_meaning.specs.grammars.GrammarOf.{grammar_of}
use Rattle.ftl_document.specs.syntax.Written.{WrittenNode}
use Rattle.ftl_document.specs.faults.DocumentTree.{tree_of}
use Rattle.ftl_document.specs.faults.FirstFault.{first_fault, first_node_fault, instance_count_of}
use Rattle.ftl_document.specs.faults.Within.{IsWithin}
use Rattle.ftl_document.specs.faults.WrittenOf.{written_of}
use Rattle.ftl_document.specs.declared.faults.fault.DocFault.{DocFault}
use Rattle.ftl_document.specs.declared.faults.fault.DocFault.TheVariants as fault

-- a document whose nodes have no fault, of a grammar without one, is a tree of the grammar
abbrev pub FaultlessAreTrees : Type 0
FaultlessAreTrees =
    (g : Grammar) (greatest : ℕ) (node : WrittenNode) → grammars.first_fault g ≡ None
    → first_node_fault g node ≡ None → IsWithin greatest node → IsTreeOf (grammar_of greatest g) (tree_of g node)

-- the attributes that are counted of a document are those of its tree
abbrev pub CountsInstances : Type 0
CountsInstances =
    (g : Grammar) (greatest : ℕ) (node : WrittenNode)
    → instance_count_of g node ≡ instance_count (grammar_of greatest g) (tree_of g node)

-- what holds of each tree of a grammar without a fault
abbrev pub OfTrees : (Grammar → (greatest : ℕ) → Forest → Type 0) → Type 0
OfTrees P =
    (g : Grammar) (greatest : ℕ) (t : Forest) → grammars.first_fault g ≡ None → IsTreeOf (grammar_of greatest g) t
    → P g greatest t

-- the document of the tree means the tree
abbrev pub MeansItsTree : Grammar → (greatest : ℕ) → Forest → Type 0
MeansItsTree g greatest t = tree_of g (written_of g t) ≡ t

-- no node of it has a fault
abbrev pub IsWrittenRight : Grammar → (greatest : ℕ) → Forest → Type 0
IsWrittenRight g greatest t = first_node_fault g (written_of g t) ≡ None

-- and its numbers are within the width
abbrev pub IsWrittenWithin : Grammar → (greatest : ℕ) → Forest → Type 0
IsWrittenWithin g greatest t = IsWithin greatest (written_of g t)

-- a fault of what the text spells, and not of the text itself or of memory
abbrev pub IsOfNodes : DocFault → Type 0
IsOfNodes (fault.TooDeep at) = ⊥
IsOfNodes (fault.TooManyNodes count) = ⊥
IsOfNodes (fault.Syntax at) = ⊥
IsOfNodes (fault.UnknownClass node name) = Unit {0}
IsOfNodes (fault.WrongInterface node class wanted) = Unit {0}
IsOfNodes (fault.UnknownField node name) = Unit {0}
IsOfNodes (fault.FieldTwice node name) = Unit {0}
IsOfNodes (fault.FieldForm node name) = Unit {0}
IsOfNodes (fault.FieldOrder node name) = Unit {0}
IsOfNodes (fault.FieldMissing node name) = Unit {0}
IsOfNodes (fault.TooManyInstances count) = Unit {0}
IsOfNodes fault.OutOfMemory = ⊥

-- the first fault is one of these
abbrev pub FaultsAreOfNodes : Type 0
FaultsAreOfNodes = (g : Grammar) (node : WrittenNode) (x : DocFault) → first_fault g node ≡ Some x → IsOfNodes x
