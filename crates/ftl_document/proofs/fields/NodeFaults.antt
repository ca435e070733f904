-- The fault of a node by those of its parts.
use Rattle.std.proofs.Common.{◌≡◌, ℕ, true, not, ◌==◌, eq-eqb, refl, ◌∙◌, ap, ◌<◌, arith, List, [], ◌∷◌, length, map, Option, Some, None}
use Rattle.std.proofs.lemmas.Bool.{ne_eqb}
use Rattle.std.proofs.lemmas.List.{length-map}
use Rattle.std.proofs.lemmas.List.Quantifiers.{position-Some}
use Rattle.std.specs.Str.{bytes_eq}
use Rattle.ftl_grammar.specs.declared.syntax.rules.Class.{Class}
use Rattle.ftl_grammar.specs.declared.syntax.rules.Grammar.{Grammar}
use Rattle.ftl_document.specs.syntax.Written.{NameText}
use Rattle.ftl_meaning.specs.faults.Checked.{class_named}
use Rattle.ftl_meaning.specs.faults.Numbering.{class_names, interface_of}
use Rattle.ftl_document.specs.faults.FirstFault.{fault_if, field_faults, first_there, missing_fault, node_fault, node_fault_by}
use Rattle.ftl_document.specs.faults.Nodes.{StandingNode}
use Rattle.ftl_document.specs.declared.faults.fault.DocFault.{DocFault}
use Rattle.ftl_document.specs.declared.faults.fault.DocFault.TheVariants as fault
use Rattle.ftl_document.specs.fields.OwnFields.{head_in}
use Rattle.ftl_document.specs.fields.Placed.{node_in}
use Rattle.ftl_document.specs.declared.fields.own_field.OwnField.{OwnField}

same_number : (n : ℕ) → (n == n) ≡ true
same_number n = eq-eqb n n refl

-- where the class is known and of the interface that is wanted, the fault is one of the fields
pub node_fault_is : (g : Grammar) (n k : ℕ) (class : NameText) (wanted : ℕ) (fields : List OwnField)
    → class_named g class ≡ Some k → interface_of g k ≡ wanted
    → node_fault g (n, node_in wanted class fields)
    ≡ first_there (first_there (field_faults g n k [] (map head_in fields)) ∷ missing_fault g n k (map head_in fields) ∷ [])
node_fault_is g n k class wanted fields known same =
    ap (node_fault_by g n (node_in wanted class fields)) known
    ∙ ap (λ b. first_there (fault_if (not b) (fault.WrongInterface n k wanted) ∷ first_there (field_faults g n k [] (map head_in fields)) ∷ missing_fault g n k (map head_in fields) ∷ []))
    (ap (λ i. i == wanted) same ∙ same_number wanted)

-- the fault of a field, where there is one
pub fault_of_fields : (o : Option DocFault) (later : Option DocFault) (x : DocFault) → o ≡ Some x
    → first_there (o ∷ later ∷ []) ≡ Some x
fault_of_fields o later x is = ap (λ z. first_there (z ∷ later ∷ [])) is

one_there : (o : Option DocFault) → first_there (o ∷ []) ≡ o
one_there None = refl
one_there (Some x) = refl

-- and else what is missing
pub fault_missing : (o : Option DocFault) (later : Option DocFault) → o ≡ None → first_there (o ∷ later ∷ []) ≡ later
fault_missing o later is = ap (λ z. first_there (z ∷ later ∷ [])) is ∙ one_there later

-- ---- the class

pub class_within : (g : Grammar) (class : NameText) (k : ℕ) → class_named g class ≡ Some k → k < length g.classes
class_within g class k named =
    let at = position-Some (bytes_eq class) (class_names g) k [] named in
    let below = at.0 in
    omega (arith, below, length-map g.classes (λ (y : Class). y.name))

pub class_unknown : (g : Grammar) (n : ℕ) (x : StandingNode) → class_named g x.class ≡ None
    → node_fault g (n, x) ≡ Some (fault.UnknownClass n x.class)
class_unknown g n x none = ap (node_fault_by g n x) none

pub interface_wrong : (g : Grammar) (n k : ℕ) (x : StandingNode) → class_named g x.class ≡ Some k
    → (interface_of g k ≡ x.wanted → ⊥) → node_fault g (n, x) ≡ Some (fault.WrongInterface n k x.wanted)
interface_wrong g n k x known wrong =
    ap (node_fault_by g n x) known
    ∙ ap (λ b. first_there (fault_if (not b) (fault.WrongInterface n k x.wanted) ∷ first_there (field_faults g n k [] x.fields) ∷ missing_fault g n k x.fields ∷ []))
    (ne_eqb (interface_of g k) x.wanted wrong)
