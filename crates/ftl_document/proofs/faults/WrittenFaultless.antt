-- No node of the written document of a tree has a fault, and its numbers are within the width.
use Rattle.std.proofs.Common.{◌≡◌, ℕ, suc, ◌==◌, Bool, true, false, if◌then◌else◌, refl, sym, ◌∙◌, subst, ⊎_elim, List, [], ◌∷◌, length, map, Contains, None, ℤ}
use Rattle.std.specs.List.{AllByRecursion}
use Rattle.std.proofs.lemmas.Bool.{eqb-true}
use Rattle.std.proofs.lemmas.List.{length-map}
use Rattle.ftl_model.proofs.lists.Elements.{here_in, in_cases, in_filter, later_in, nothing_in}
use Rattle.ftl_model.proofs.lists.Each.{each-append}
use Rattle.ftl_model.specs.layout.AttributeGrammar.{AttributeGrammar}
use Rattle.ftl_model.specs.layout.Tree.{Forest, none, tree}
use Rattle.ftl_model.specs.layout.TreeOf.{AreInputs, FitBelow, FitsClass, IsTreeOf}
use Rattle.ftl_grammar.specs.declared.syntax.rules.Child.{Child}
use Rattle.ftl_grammar.specs.declared.syntax.rules.Grammar.{Grammar}
use Rattle.ftl_document.specs.syntax.Written.{NameText, WrittenFields, list_field, no_fields}
use Rattle.ftl_meaning.specs.faults.FirstFault as grammars
use Rattle.ftl_meaning.specs.faults.Numbering.{child_at, children_of, class_at, interface_number, interface_of, numbered}
use Rattle.ftl_meaning.specs.grammars.GrammarOf.{grammar_of}
use Rattle.ftl_document.specs.faults.DocumentTree.{number_named}
use Rattle.ftl_document.specs.faults.FirstFault.{first_node_fault, first_there, input_names, node_fault}
use Rattle.ftl_document.specs.faults.Nodes.{StandingNode, class_number, nodes_beside, nodes_in, nodes_of, standing, wanted_in}
use Rattle.ftl_document.specs.faults.Within.{AreAllWithin, AreWithin, IsWithin}
use Rattle.ftl_document.specs.faults.WrittenOf.{WrittenKid, child_fields, fields_from, input_fields, kids_in, nodes_from, single_field, written_kids, written_of}
use Rattle.ftl_document.proofs.faults.RightInputs.{inputs_counted}
use Rattle.ftl_document.proofs.faults.WrittenRight.{heads_from, node_right, there_none}
use Rattle.ftl_document.proofs.faults.WrittenTrees.{class_back, has_fields}

module _ (g : Grammar) (lawful : grammars.first_fault g ≡ None) (greatest : ℕ) where
  abbrev meant : AttributeGrammar
  meant = grammar_of greatest g

  -- no node has a fault, whatever its number
  abbrev AreFine : List StandingNode → Type 0
  AreFine = AllByRecursion (λ x. (n : ℕ) → node_fault g (n, x) ≡ None)

  pub none_first : (n : ℕ) (xs : List StandingNode) → AreFine xs → first_there (map (node_fault g) (numbered n xs)) ≡ None
  none_first n [] fine = refl
  none_first n (x ∷ xs) fine =
      there_none (node_fault g (n, x)) (map (node_fault g) (numbered (suc n) xs)) (fine.0 n) (none_first (suc n) xs fine.1)

  -- a kid is right where this interface is wanted, with all nodes below it
  record KidIsRight (wanted : ℕ) (x : WrittenKid) : Type 0 where
    own : (n : ℕ) → node_fault g (n, standing wanted x.class x.fields) ≡ None
    below : AreFine (nodes_in g (class_number g x.class) x.fields)
    within : AreWithin greatest x.fields

  abbrev EachFine : StandingNode → Type 0
  EachFine x = (n : ℕ) → node_fault g (n, x) ≡ None

  -- ---- the fields of a node, where all kids are right

  nodes_fine : (wanted : ℕ) (kids : List WrittenKid) → ((x : WrittenKid) → Contains kids x → KidIsRight wanted x)
      → AreFine (nodes_beside g wanted (nodes_from kids)) × AreAllWithin greatest (nodes_from kids)
  nodes_fine wanted [] right = (tt, tt)
  nodes_fine wanted (x ∷ kids) right =
      let first = right x (here_in x kids) in
      let rest = nodes_fine wanted kids (λ y there. right y (later_in x y kids there)) in (
        (
          first.own,
          each-append EachFine (nodes_in g (class_number g x.class) x.fields) (nodes_beside g wanted (nodes_from kids)) first.below rest.0,
        ),
        (first.within, rest.1),
      )

  single_fine : (k : ℕ) (name : NameText) (kids : List WrittenKid) (later : WrittenFields)
      → ((x : WrittenKid) → Contains kids x → KidIsRight (wanted_in g k name) x)
      → AreFine (nodes_in g k later) → AreWithin greatest later
      → AreFine (nodes_in g k (single_field name kids later)) × AreWithin greatest (single_field name kids later)
  single_fine k name [] later right fine within = (fine, within)
  single_fine k name (x ∷ kids) later right fine within =
      let first = right x (here_in x kids) in (
        (
          first.own,
          each-append EachFine (nodes_in g (class_number g x.class) x.fields) (nodes_in g k later) first.below fine,
        ),
        (first.within, within),
      )

  children_fine : (k : ℕ) (cs : List (ℕ × Child)) (kids : List WrittenKid)
      → ((c : ℕ × Child) → Contains cs c → (x : WrittenKid) → Contains (kids_in c.0 kids) x → KidIsRight (wanted_in g k c.1.name) x)
      → AreFine (nodes_in g k (child_fields cs kids)) × AreWithin greatest (child_fields cs kids)
  children_fine k [] kids right = (tt, tt)
  children_fine k (c ∷ cs) kids right =
      by_test c.1.many (children_fine k cs kids (λ d there. right d (later_in c d cs there)))
    where
      later : WrittenFields
      later = child_fields cs kids

      by_test : (b : Bool) → AreFine (nodes_in g k later) × AreWithin greatest later
          → AreFine (nodes_in g k (if b then list_field c.1.name (nodes_from (kids_in c.0 kids)) later else single_field c.1.name (kids_in c.0 kids) later))
          × AreWithin greatest (if b then list_field c.1.name (nodes_from (kids_in c.0 kids)) later else single_field c.1.name (kids_in c.0 kids) later)
      by_test true rest =
          let nodes = nodes_fine (wanted_in g k c.1.name) (kids_in c.0 kids) (right c (here_in c cs)) in (
            each-append EachFine (nodes_beside g (wanted_in g k c.1.name) (nodes_from (kids_in c.0 kids))) (nodes_in g k later) nodes.0 rest.0,
            (nodes.1, rest.1),
          )
      by_test false rest = single_fine k c.1.name (kids_in c.0 kids) later (right c (here_in c cs)) rest.0 rest.1

  inputs_fine : (k : ℕ) (names : List NameText) (numbers : List ℤ) (later : WrittenFields) → AreInputs greatest numbers
      → AreFine (nodes_in g k later) × AreWithin greatest later
      → AreFine (nodes_in g k (input_fields names numbers later)) × AreWithin greatest (input_fields names numbers later)
  inputs_fine k [] numbers later within rest = rest
  inputs_fine k (name ∷ names) [] later within rest = rest
  inputs_fine k (name ∷ names) (n ∷ numbers) later within rest =
      let more = inputs_fine k names numbers later within.1 rest in (more.0, (within.0, more.1))

  -- ---- trees

  -- a node of a tree, where the kids below it are right
  node_fine : (k wanted : ℕ) (inputs : List ℤ) (below : Forest) → FitsClass meant k inputs below → interface_of g k ≡ wanted
      → ((x : WrittenKid) → Contains (written_kids g below) x → KidIsRight (interface_number g (child_at g k x.child).interface) x)
      → ((n : ℕ) → node_fault g (n, standing wanted (class_at g k).name (fields_from g k inputs (written_kids g below))) ≡ None)
      × AreFine (nodes_in g k (fields_from g k inputs (written_kids g below)))
      × AreWithin greatest (fields_from g k inputs (written_kids g below))
  node_fine k wanted inputs below fits interface right =
      let kids = written_kids g below in
      let has = has_fields g lawful greatest k inputs below fits in
      let counted : length (input_names g k) ≡ length inputs =
      sym (length-map (input_names g k) (number_named no_fields)) ∙ inputs_counted greatest g k no_fields ∙ sym fits.count in
      let heads = heads_from g lawful k fits.known inputs kids counted has in
      let fields =
      inputs_fine k (input_names g k) inputs (child_fields (children_of g k) kids) fits.numbers
      (children_fine k (children_of g k) kids
      (λ c there x in_it.
      let f = in_filter (λ (y : WrittenKid). y.child == c.0) kids x in_it in
      subst (λ d. KidIsRight (interface_number g (child_at g k d).interface) x)
      (eqb-true x.child c.0 f.1 ∙ sym (has c there).number) (right x f.0))) in (
        (λ n. node_right g lawful k fits.known n wanted (fields_from g k inputs kids) heads interface),
        fields.0,
        fields.1,
      )

  -- each kid of a node of a tree is right
  kids_right : (k : ℕ) (f : Forest) → FitBelow meant k f → (x : WrittenKid) → Contains (written_kids g f) x
      → KidIsRight (interface_number g (child_at g k x.child).interface) x
  kids_right k none fit x there = absurd (nothing_in x there)
  kids_right k (tree class child inputs below beside) fit x there =
      let node = node_fine class (interface_number g (child_at g k child).interface) inputs below fit.1 fit.0.interface (kids_right class below fit.2) in
      ⊎_elim
      (λ same. subst (λ (y : WrittenKid). KidIsRight (interface_number g (child_at g k y.child).interface) y) same
      (record {
        own = node.0;
        below = subst (λ m. AreFine (nodes_in g m fields)) (sym (class_back g lawful class fit.1.known)) node.1;
        within = node.2;
      }))
      (λ later. kids_right k beside fit.4 x later)
      (in_cases (record { child = child; class = (class_at g class).name; fields = fields }) x (written_kids g beside) there)
    where
      fields : WrittenFields
      fields = fields_from g class inputs (written_kids g below)

  -- no node of the document of a tree has a fault
  pub written_right : (t : Forest) → IsTreeOf meant t → first_node_fault g (written_of g t) ≡ None
  written_right none is = absurd is
  written_right (tree class child inputs below beside) is =
      let node = node_fine class (interface_number g g.root) inputs below is.1 is.0 (kids_right class below is.2) in
      none_first 0 (nodes_of g (written_of g (tree class child inputs below beside))) (
        node.0,
        subst (λ m. AreFine (nodes_in g m (fields_from g class inputs (written_kids g below)))) (sym (class_back g lawful class is.1.known)) node.1,
      )

  -- and its numbers are within the width
  pub written_within : (t : Forest) → IsTreeOf meant t → IsWithin greatest (written_of g t)
  written_within none is = absurd is
  written_within (tree class child inputs below beside) is =
      (node_fine class (interface_number g g.root) inputs below is.1 is.0 (kids_right class below is.2)).2
