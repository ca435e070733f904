-- The lines that refuse documents.
use Rattle.std.specs.Prelude.{ℕ, List, [], ◌++◌, codes}
use Rattle.std.specs.Fmt.{decimal}
use Rattle.ftl_page.specs.declared.sections.fault.Section.TheVariants.{Document}
use Rattle.ftl_grammar.specs.syntax.Trees.{NameText}
use Rattle.ftl_grammar.specs.declared.syntax.rules.Grammar.{Grammar}
use Rattle.ftl_meaning.specs.faults.Numbering.{class_at, interface_at}
use Rattle.ftl_document.specs.declared.faults.fault.DocFault.{DocFault}
use Rattle.ftl_document.specs.declared.faults.fault.DocFault.TheVariants as fault
use Rattle.ftl_answer.specs.refusals.TextLines.{syntax_at, too_deep_at}

-- a node by its number in preorder, and what is wrong with it
abbrev pub at_node : (node : ℕ) → (what : List ℕ) → List ℕ
at_node node what = codes "refused document: node " ++ (decimal node ++ what)

-- a field of a node, and what is wrong with it
abbrev pub at_field : (node : ℕ) → NameText → (what : List ℕ) → List ℕ
at_field node name what = at_node node (codes " field " ++ (name ++ what))

-- the first fault of a document
abbrev pub document_line : Grammar → DocFault → List ℕ
document_line g (fault.TooDeep at) = too_deep_at Document at
document_line g (fault.TooManyNodes count) = codes "refused document: too many nodes: " ++ decimal count
document_line g (fault.Syntax at) = syntax_at Document at
document_line g (fault.UnknownClass node name) = at_node node (codes " unknown class " ++ name)
document_line g (fault.WrongInterface node class wanted) =
    at_node node
    (codes " class " ++ ((class_at g class).name ++ (codes " is not of " ++ (interface_at g wanted).name)))
document_line g (fault.UnknownField node name) = at_node node (codes " unknown field " ++ name)
document_line g (fault.FieldTwice node name) = at_field node name (codes " twice")
document_line g (fault.FieldForm node name) = at_field node name (codes " has a wrong form")
document_line g (fault.FieldOrder node name) = at_field node name (codes " out of order")
document_line g (fault.FieldMissing node name) = at_field node name (codes " missing")
document_line g (fault.TooManyInstances count) = codes "refused document: too many instances: " ++ decimal count
document_line g fault.OutOfMemory = []
