-- The first fault of the nodes of a document is the answer.
use Rattle.std.proofs.Common.{◌≡◌, ◌≢◌, Some, Err}
use Rattle.ftl_tokens.specs.scanner.Tokenized.{WideTokenized}
use Rattle.ftl_meaning.specs.faults.Checked.{CheckedGrammar}
use Rattle.ftl_document.specs.syntax.Written.{WrittenNode}
use Rattle.ftl_document.specs.faults.DocumentLaws.{IsOfNodes}
use Rattle.ftl_document.specs.faults.FirstFault.{first_fault}
use Rattle.ftl_document.specs.declared.faults.fault.DocFault.{DocFault}
use Rattle.ftl_document.specs.declared.faults.fault.DocFault.TheVariants as fault
use Rattle.ftl_document.proofs.faults.FaultKinds.{first_is_of_nodes}
use Rattle.ftl_document.specs.reading.ReadTree.{IsFaultOfNodes, IsSpelled, ReadsTree}

-- a fault of nodes, as an answer
by_kind : (c : CheckedGrammar) (s : WideTokenized) (x : DocFault) → IsOfNodes x → IsFaultOfNodes c s x
    → ReadsTree c s (Err x)
by_kind c s (fault.TooDeep at) of h = absurd of
by_kind c s (fault.TooManyNodes count) of h = absurd of
by_kind c s (fault.Syntax at) of h = absurd of
by_kind c s (fault.UnknownClass node name) of h = h
by_kind c s (fault.WrongInterface node class wanted) of h = h
by_kind c s (fault.UnknownField node name) of h = h
by_kind c s (fault.FieldTwice node name) of h = h
by_kind c s (fault.FieldForm node name) of h = h
by_kind c s (fault.FieldOrder node name) of h = h
by_kind c s (fault.FieldMissing node name) of h = h
by_kind c s (fault.TooManyInstances count) of h = h
by_kind c s fault.OutOfMemory of h = absurd of

pub fault_answered : (c : CheckedGrammar) (s : WideTokenized) (node : WrittenNode) (x : DocFault) → IsSpelled s node
    → first_fault c.grammar node ≡ Some x → ReadsTree c s (Err x)
fault_answered c s node x spelled first =
    by_kind c s x (first_is_of_nodes c.grammar node x first) (record { node = node; spelled = spelled; first = first })

-- it is not want of memory
no_memory : (x : DocFault) → IsOfNodes x → x ≢ fault.OutOfMemory
no_memory (fault.TooDeep at) of same = cc
no_memory (fault.TooManyNodes count) of same = cc
no_memory (fault.Syntax at) of same = cc
no_memory (fault.UnknownClass node name) of same = cc
no_memory (fault.WrongInterface node class wanted) of same = cc
no_memory (fault.UnknownField node name) of same = cc
no_memory (fault.FieldTwice node name) of same = cc
no_memory (fault.FieldForm node name) of same = cc
no_memory (fault.FieldOrder node name) of same = cc
no_memory (fault.FieldMissing node name) of same = cc
no_memory (fault.TooManyInstances count) of same = cc
no_memory fault.OutOfMemory of same = absurd of

pub fault_no_memory : (c : CheckedGrammar) (node : WrittenNode) (x : DocFault) → first_fault c.grammar node ≡ Some x
    → x ≢ fault.OutOfMemory
fault_no_memory c node x first = no_memory x (first_is_of_nodes c.grammar node x first)
