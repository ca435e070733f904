-- The names of the document of a tree can be said where those of the grammar can.
use Rattle.std.proofs.Common.{ℕ, suc, ◌<◌, Bool, true, false, eqb, if◌then◌else◌, List, [], ◌∷◌, length, ℤ}
use Rattle.std.specs.List.{AllByRecursion}
use Rattle.ftl_model.specs.layout.Tree.{Forest, none, tree}
use Rattle.ftl_model.specs.layout.TreeOf.{FitBelow, IsTreeOf}
use Rattle.ftl_grammar.specs.declared.syntax.rules.Child.{Child}
use Rattle.ftl_grammar.specs.declared.syntax.rules.Grammar.{Grammar}
use Rattle.ftl_meaning.specs.faults.Numbering.{children_of, class_at, numbered}
use Rattle.ftl_meaning.specs.grammars.GrammarOf.{grammar_of}
use Rattle.ftl_document.specs.syntax.Written.{NameText, WrittenFields, WrittenNodes, list_field, number_field}
use Rattle.ftl_document.specs.syntax.Written.{no_fields, no_nodes, node_and, node_field}
use Rattle.ftl_document.specs.syntax.Sizes.{FieldsAreWithin, NodesAreWithin}
use Rattle.ftl_document.specs.faults.FirstFault.{input_names}
use Rattle.ftl_document.specs.faults.Within.{AreAllWithin, AreWithin}
use Rattle.ftl_document.specs.faults.WrittenOf.{WrittenKid, child_fields, fields_from, input_fields, kids_in}
use Rattle.ftl_document.specs.faults.WrittenOf.{nodes_from, single_field, written_kids, written_of}
use Rattle.ftl_document_printing.specs.text.DocumentText.{AreFieldsSaid, AreNodesSaid, IsSaid}
use Rattle.ftl_document_printing.specs.round_trip.ReadBack.{AreClassesSaid}

-- the names of a kid can be said
abbrev KidSaid : WrittenKid → Type 0
KidSaid x = IsSaid x.class × AreFieldsSaid x.fields

inputs_said : (names : List NameText) (numbers : List ℤ) (later : WrittenFields) → AllByRecursion IsSaid names
    → AreFieldsSaid later → AreFieldsSaid (input_fields names numbers later)
inputs_said [] numbers later all said = said
inputs_said (name ∷ names) [] later all said = said
inputs_said (name ∷ names) (n ∷ numbers) later all said = (all.0, inputs_said names numbers later all.1 said)

nodes_said : (kids : List WrittenKid) → AllByRecursion KidSaid kids → AreNodesSaid (nodes_from kids)
nodes_said [] all = tt
nodes_said (x ∷ kids) all = (all.0.0, all.0.1, nodes_said kids all.1)

-- those in one child are among all
some_said : (c : ℕ) (kids : List WrittenKid) → AllByRecursion KidSaid kids → AllByRecursion KidSaid (kids_in c kids)
some_said c [] all = tt
some_said c (x ∷ kids) all = by (eqb x.child c) (some_said c kids all.1)
  where
    by : (same : Bool) → AllByRecursion KidSaid (kids_in c kids)
        → AllByRecursion KidSaid (if same then x ∷ kids_in c kids else kids_in c kids)
    by true rest = (all.0, rest)
    by false rest = rest

child_said : (name : NameText) (many : Bool) (kids : List WrittenKid) (later : WrittenFields) → IsSaid name
    → AllByRecursion KidSaid kids → AreFieldsSaid later
    → AreFieldsSaid (if many then list_field name (nodes_from kids) later else single_field name kids later)
child_said name true kids later said all rest = (said, nodes_said kids all, rest)
child_said name false [] later said all rest = rest
child_said name false (x ∷ kids) later said all rest = (said, all.0.0, all.0.1, rest)

children_said : (n : ℕ) (cs : List Child) (kids : List WrittenKid) → AllByRecursion (λ c. IsSaid c.name) cs
    → AllByRecursion KidSaid kids → AreFieldsSaid (child_fields (numbered n cs) kids)
children_said n [] kids names all = tt
children_said n (c ∷ cs) kids names all =
    child_said c.name c.many (kids_in n kids) (child_fields (numbered (suc n) cs) kids) names.0 (some_said n kids all)
    (children_said (suc n) cs kids names.1 all)

module _ (g : Grammar) (said : AreClassesSaid g) (greatest : ℕ) where
  fields_said : (k : ℕ) (inputs : List ℤ) (kids : List WrittenKid) → k < length g.classes
      → AllByRecursion KidSaid kids → AreFieldsSaid (fields_from g k inputs kids)
  fields_said k inputs kids known all =
      let class = said k known in
      inputs_said (input_names g k) inputs (child_fields (children_of g k) kids) class.inputs
      (children_said 0 (class_at g k).children kids class.children all)

  kids_said : (above : ℕ) (f : Forest) → FitBelow (grammar_of greatest g) above f
      → AllByRecursion KidSaid (written_kids g f)
  kids_said above none fit = tt
  kids_said above (tree k child inputs below beside) fit = (
    ((said k fit.1.known).name, fields_said k inputs (written_kids g below) fit.1.known (kids_said k below fit.2)),
    kids_said above beside fit.4,
  )

  pub class_said : (t : Forest) → IsTreeOf (grammar_of greatest g) t → IsSaid (written_of g t).class
  class_said none is = absurd is
  class_said (tree k child inputs below beside) is = (said k is.1.known).name

  pub names_said : (t : Forest) → IsTreeOf (grammar_of greatest g) t → AreFieldsSaid (written_of g t).fields
  names_said none is = absurd is
  names_said (tree k child inputs below beside) is =
      fields_said k inputs (written_kids g below) is.1.known (kids_said k below is.2)

mutual
  -- the same numbers are within
  pub fields_within : (greatest : ℕ) (f : WrittenFields) → AreWithin greatest f → FieldsAreWithin greatest f
  fields_within greatest no_fields within = tt
  fields_within greatest (number_field x n later) within = (within.0, fields_within greatest later within.1)
  fields_within greatest (node_field x class fields later) within =
      (fields_within greatest fields within.0, fields_within greatest later within.1)
  fields_within greatest (list_field x nodes later) within =
      (nodes_within greatest nodes within.0, fields_within greatest later within.1)

  nodes_within : (greatest : ℕ) (nodes : WrittenNodes) → AreAllWithin greatest nodes → NodesAreWithin greatest nodes
  nodes_within greatest no_nodes within = tt
  nodes_within greatest (node_and class fields later) within =
      (fields_within greatest fields within.0, nodes_within greatest later within.1)
