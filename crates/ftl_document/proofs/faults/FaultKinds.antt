-- The first fault is one of the nodes.
use Rattle.std.proofs.Common.{◌≡◌, ℕ, suc, ◌==◌, not, Bool, true, false, subst, List, [], ◌∷◌, ◌++◌, map, Option, Some, None, nat_lt}
use Rattle.std.specs.List.{AllByRecursion, find}
use Rattle.std.specs.Option.{option_map}
use Rattle.ftl_grammar.specs.declared.syntax.rules.Grammar.{Grammar}
use Rattle.ftl_document.specs.syntax.Written.{NameText, WrittenNode}
use Rattle.ftl_meaning.specs.faults.Checked.{class_named, field_named}
use Rattle.ftl_meaning.specs.faults.Numbering.{interface_of, is_among, numbered}
use Rattle.ftl_meaning.specs.declared.faults.info.Field.{Field}
use Rattle.ftl_document.specs.faults.DocumentLaws.{IsOfNodes}
use Rattle.ftl_document.specs.faults.FirstFault.{fault_if, field_fault_by, field_faults, first_fault, first_node_fault, first_there, has_form, instance_count_of, is_late, missing_fault, names_of, needed_names, node_fault, node_fault_by, too_many_instances}
use Rattle.ftl_document.specs.faults.Nodes.{FieldHead, StandingNode, nodes_of}
use Rattle.ftl_document.specs.declared.faults.fault.DocFault.{DocFault}
use Rattle.ftl_document.specs.declared.faults.fault.DocFault.TheVariants as fault

-- a fault, if there is one, is such a one
abbrev MayBe : Option DocFault → Type 0
MayBe None = Unit {0}
MayBe (Some x) = IsOfNodes x

first_may : (os : List (Option DocFault)) → AllByRecursion MayBe os → MayBe (first_there os)
first_may [] h = tt
first_may (None ∷ os) h = first_may os h.1
first_may (Some x ∷ os) h = h.0

if_may : (b : Bool) (x : DocFault) → IsOfNodes x → MayBe (fault_if b x)
if_may true x h = h
if_may false x h = tt

map_may : (n : ℕ) (o : Option NameText) → MayBe (option_map (fault.FieldMissing n) o)
map_may n None = tt
map_may n (Some name) = tt

field_may : (g : Grammar) (n k : ℕ) (earlier : List FieldHead) (f : FieldHead) (o : Option Field)
    → MayBe (field_fault_by g n k earlier f o)
field_may g n k earlier f None = tt
field_may g n k earlier f (Some x) =
    first_may
    (fault_if (is_among (names_of earlier) f.name) (fault.FieldTwice n f.name)
    ∷ fault_if (not (has_form g k x f.form)) (fault.FieldForm n f.name)
    ∷ fault_if (is_late g k earlier x) (fault.FieldOrder n f.name)
    ∷ []) (
      if_may (is_among (names_of earlier) f.name) (fault.FieldTwice n f.name) tt,
      (
        if_may (not (has_form g k x f.form)) (fault.FieldForm n f.name) tt,
        (if_may (is_late g k earlier x) (fault.FieldOrder n f.name) tt, tt),
      ),
    )

fields_may : (g : Grammar) (n k : ℕ) (earlier fields : List FieldHead) → AllByRecursion MayBe (field_faults g n k earlier fields)
fields_may g n k earlier [] = tt
fields_may g n k earlier (f ∷ fields) =
    (field_may g n k earlier f (field_named g k f.name), fields_may g n k (earlier ++ f ∷ []) fields)

node_may : (g : Grammar) (n : ℕ) (x : StandingNode) (o : Option ℕ) → MayBe (node_fault_by g n x o)
node_may g n x None = tt
node_may g n x (Some k) =
    first_may
    (fault_if (not (interface_of g k == x.wanted)) (fault.WrongInterface n k x.wanted)
    ∷ first_there (field_faults g n k [] x.fields)
    ∷ missing_fault g n k x.fields
    ∷ []) (
      if_may (not (interface_of g k == x.wanted)) (fault.WrongInterface n k x.wanted) tt,
      (
        first_may (field_faults g n k [] x.fields) (fields_may g n k [] x.fields),
        (map_may n (find (λ name. not (is_among (names_of x.fields) name)) (needed_names g k)), tt),
      ),
    )

nodes_may : (g : Grammar) (n : ℕ) (xs : List StandingNode)
    → AllByRecursion MayBe (map (node_fault g) (numbered n xs))
nodes_may g n [] = tt
nodes_may g n (x ∷ xs) = (node_may g n x (class_named g x.class), nodes_may g (suc n) xs)

-- the first fault of a document
pub first_is_of_nodes : (g : Grammar) (node : WrittenNode) (x : DocFault) → first_fault g node ≡ Some x → IsOfNodes x
first_is_of_nodes g node x h =
    subst MayBe h
    (first_may (first_node_fault g node ∷ too_many_instances (instance_count_of g node) ∷ []) (
      first_may (map (node_fault g) (numbered 0 (nodes_of g node))) (nodes_may g 0 (nodes_of g node)),
      (if_may (nat_lt 33554432 (instance_count_of g node)) (fault.TooManyInstances (instance_count_of g node)) tt, tt),
    ))
