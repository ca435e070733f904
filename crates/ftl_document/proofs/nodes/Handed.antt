-- Faults of nodes as code finds them.
use Rattle.std.proofs.Common.{◌≡◌, ◌≢◌, ℕ, sym, ◌∙◌, ap, List, map, Option, Some, Result, Ok, Err}
use Rattle.std.specs.Prelude.{IsErrAnd}
use Rattle.ftl_grammar.specs.declared.syntax.rules.Grammar.{Grammar}
use Rattle.ftl_document.specs.syntax.Written.{NameText, WrittenFields, WrittenNode}
use Rattle.ftl_document.specs.faults.FirstFault.{first_node_fault, node_fault}
use Rattle.ftl_document.specs.faults.Nodes.{FieldHead, standing}
use Rattle.ftl_document.specs.declared.faults.fault.DocFault.{DocFault}
use Rattle.ftl_document.specs.declared.faults.fault.DocFault.TheVariants as fault
use Rattle.ftl_document.proofs.fields.SlotInputs.{heads_kept}
use Rattle.ftl_document.specs.fields.OwnFields.{head_in, own_of}
use Rattle.ftl_document.specs.fields.Placed.{node_in}
use Rattle.ftl_document.specs.declared.fields.own_field.OwnField.{OwnField}
use Rattle.ftl_document.specs.nodes.Found.{FindsFault}
use Rattle.ftl_document.specs.nodes.Walk.{Ends, Walks}
use Rattle.ftl_document.specs.declared.nodes.progress.Progress.{Progress}

-- a fault that is handed on
pub handed : {A : Type 0} (expected : Option DocFault) (x : DocFault) (r : Result A DocFault) → IsErrAnd r (λ e. e ≡ x)
    → (x ≢ fault.OutOfMemory → expected ≡ Some x) → FindsFault expected r
handed expected x (Ok y) told h = absurd told
handed expected x (Err e) told h = λ memory. h (λ same. memory (told ∙ same)) ∙ ap Some (sym told)

-- the fault of a node by its fields as code has them
pub seen : (g : Grammar) (n wanted : ℕ) (name : NameText) (own : List OwnField) (written : WrittenFields)
    → own ≡ own_of written
    → node_fault g (n, standing wanted name written) ≡ node_fault g (n, node_in wanted name own)
seen g n wanted name own written same =
    ap (λ (hs : List FieldHead). node_fault g (n, record { wanted = wanted; class = name; fields = hs }))
    (sym (ap (map head_in) same ∙ heads_kept written))

-- the same of the fault of all nodes, before a walk's end
pub ended_on : (g : Grammar) (node : WrittenNode) (x : DocFault) (r : Result (Unit {0}) DocFault) (p : Progress)
    → IsErrAnd r (λ e. e ≡ x) → (x ≢ fault.OutOfMemory → first_node_fault g node ≡ Some x) → Ends g node r p
ended_on g node x (Ok done) p told h = absurd told
ended_on g node x (Err e) p told h = λ memory. h (λ same. memory (told ∙ same)) ∙ ap Some (sym told)

-- and of a whole walk
pub walked_on : (g : Grammar) (node : WrittenNode) (x : DocFault) (r : Result Progress DocFault)
    → IsErrAnd r (λ e. e ≡ x) → (x ≢ fault.OutOfMemory → first_node_fault g node ≡ Some x) → Walks g node r
walked_on g node x (Ok p) told h = absurd told
walked_on g node x (Err e) told h = λ memory. h (λ same. memory (told ∙ same)) ∙ ap Some (sym told)
