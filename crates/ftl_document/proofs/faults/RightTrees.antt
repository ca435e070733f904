-- A document whose nodes have no fault is a tree of the grammar.
use Rattle.std.proofs.Common.{◌≡◌, ℕ, ◌<◌, ◌≤◌, not, Bool, true, false, if◌then◌else◌, refl, sym, ◌∙◌, ap, subst, ⊎_elim, arith, List, [], ◌∷◌, ◌++◌, length, Contains, Option, Some, None}
use Rattle.std.specs.List.{find}
use Rattle.std.specs.Option.{option_map}
use Rattle.std.proofs.lemmas.Bool.{not-false}
use Rattle.std.proofs.lemmas.List.Elements.{Contains-append_right, Contains-get_or}
use Rattle.std.proofs.lemmas.Option.{none-some}
use Rattle.ftl_model.proofs.lists.Elements.{here_in, in_cases, nothing_in}
use Rattle.ftl_model.proofs.lists.Rising.{map_has}
use Rattle.ftl_model.specs.layout.AttributeGrammar.{AttributeGrammar}
use Rattle.ftl_model.specs.layout.Tree.{Forest}
use Rattle.ftl_model.specs.layout.TreeOf.{FitBelow, FitsChild, FitsClass, IsTreeOf, StartsFrom}
use Rattle.ftl_grammar.specs.syntax.Trees as trees
use Rattle.ftl_grammar.specs.declared.syntax.rules.Child.{Child}
use Rattle.ftl_grammar.specs.declared.syntax.rules.Grammar.{Grammar}
use Rattle.ftl_document.specs.syntax.Written.{NameText, WrittenFields, WrittenNode, WrittenNodes, list_field, no_fields, no_nodes, node_and, node_field, number_field}
use Rattle.ftl_meaning.specs.faults.FirstFault as grammars
use Rattle.ftl_meaning.specs.faults.Numbering.{child_at, class_at, interface_number, interface_of, is_among}
use Rattle.ftl_meaning.specs.grammars.GrammarOf.{grammar_of}
use Rattle.ftl_document.specs.faults.DocumentTree.{inputs_in, tree_of, trees_before, trees_in}
use Rattle.ftl_document.specs.faults.FirstFault.{first_node_fault, input_names, missing_fault, names_of, needed_names}
use Rattle.ftl_document.specs.faults.Nodes.{FieldHead, child_number, class_number, field_heads, head_of, list_form, node_form, nodes_beside, nodes_in, nodes_of, number_form, wanted_in}
use Rattle.ftl_document.specs.faults.Within.{AreAllWithin, AreWithin, IsWithin}
use Rattle.ftl_document.specs.declared.faults.fault.DocFault.TheVariants as fault
use Rattle.ftl_document.proofs.faults.ChildNames.{child_found, child_names_of, names_of_numbered}
use Rattle.ftl_document.proofs.faults.NoDocFault.{AreRight, IsRight, all_back, all_front, each_right, later_right}
use Rattle.ftl_document.proofs.faults.RightChildren.{AreFine, counts_once, list_child, node_child, starts_from}
use Rattle.ftl_document.proofs.faults.RightInputs.{inputs_counted, inputs_within}

-- nothing is found: each passes not
none_found : {X : Type 0} (p : X → Bool) (xs : List X) → find p xs ≡ None → (x : X) → Contains xs x → p x ≡ false
none_found p [] h x there = absurd (nothing_in x there)
none_found p (y ∷ ys) h x there = by_test (p y) refl h (λ rest. none_found p ys rest x)
  where
    by_test : (b : Bool) → p y ≡ b → (if b then Some y else find p ys) ≡ None
        → (find p ys ≡ None → Contains ys x → p x ≡ false) → p x ≡ false
    by_test true e h go = absurd (none-some y (sym h))
    by_test false e h go =
        ⊎_elim (λ same. subst (λ z. p z ≡ false) same e) (λ later. go h later) (in_cases y x ys there)

-- no name is told
none_missing : (n : ℕ) (o : Option NameText) → option_map (fault.FieldMissing n) o ≡ None → o ≡ None
none_missing n None h = refl
none_missing n (Some name) h = absurd (none-some (fault.FieldMissing n name) (sym h))

module _ (greatest : ℕ) (g : Grammar) (lawful : grammars.first_fault g ≡ None) where
  abbrev meant : AttributeGrammar
  meant = grammar_of greatest g

  -- each child of a node without a fault has a field
  child_there : (n k c : ℕ) (heads : List FieldHead) → missing_fault g n k heads ≡ None
      → c < length (class_at g k).children → is_among (names_of heads) (child_at g k c).name ≡ true
  child_there n k c heads h below =
      not-false (is_among (names_of heads) (child_at g k c).name)
      (none_found (λ name. not (is_among (names_of heads) name)) (needed_names g k)
      (none_missing n (find (λ name. not (is_among (names_of heads) name)) (needed_names g k)) h) (child_at g k c).name
      (Contains-append_right (input_names g k) (child_names_of g k) (child_at g k c).name
      (subst (λ ns. Contains ns (child_at g k c).name) (sym (names_of_numbered 0 (class_at g k).children))
      (map_has (λ (c : Child). c.name) (class_at g k).children (child_at g k c)
      (Contains-get_or (class_at g k).children c (trees.child [] [] false) below)))))

  -- the inputs and the single children of a node without a fault
  class_fits : (wanted k : ℕ) (fields : WrittenFields) → IsRight g wanted k (field_heads fields) → AreWithin greatest fields
      → FitsClass meant k (inputs_in g k fields) (trees_in g k fields)
  class_fits wanted k fields right within =
      record {
        known = right.known;
        count = inputs_counted greatest g k fields;
        numbers = inputs_within greatest fields within (input_names g k);
        singles = λ c below single.
            counts_once g right.node k c single (child_found g lawful k c right.known below) [] fields right.fields
            ∙ ap (λ b. if b then 1 else 0) (child_there right.node k c (field_heads fields) right.missing below);
      }

  -- the child in which a node stands
  child_fits : (k c wanted : ℕ) (class : ℕ) → c < length (class_at g k).children
      → interface_of g class ≡ interface_number g (child_at g k c).interface → FitsChild meant k c class
  child_fits k c wanted class below interface = record { declared = below; interface = interface }

  mutual
    -- the trees in fields without a fault
    below_fit : (n k : ℕ) (earlier : List FieldHead) (fields : WrittenFields) → AreFine g n k earlier (field_heads fields)
        → AreRight g (nodes_in g k fields) → AreWithin greatest fields → FitBelow meant k (trees_in g k fields)
    below_fit n k earlier no_fields fine right within = tt
    below_fit n k earlier (number_field name m later) fine right within =
        let f = head_of name number_form in
        below_fit n k (earlier ++ f ∷ []) later (later_right g n k earlier f (field_heads later) fine) right within.1
    below_fit n k earlier (node_field name class fields later) fine right within =
        let f = head_of name node_form in
        let j = class_number g class in
        let rest = later_right g n k earlier f (field_heads later) fine in
        let child = node_child g n k earlier name (field_heads later) fine in
        let node = right.0 in
        let below = all_front (λ x. IsRight g x.wanted (class_number g x.class) x.fields) (nodes_in g j fields) (nodes_in g k later) right.1 in
        let beside = all_back (λ x. IsRight g x.wanted (class_number g x.class) x.fields) (nodes_in g j fields) (nodes_in g k later) right.1 in (
          child_fits k (child_number g k name) (wanted_in g k name) j child.below node.interface,
          class_fits (wanted_in g k name) j fields node within.0,
          below_fit node.node j [] fields node.fields below within.0,
          starts_from g n k (earlier ++ f ∷ []) later rest f (child_number g k name)
              (Contains-append_right earlier (f ∷ []) f (here_in f [])) child.is,
          below_fit n k (earlier ++ f ∷ []) later rest beside within.1,
        )
    below_fit n k earlier (list_field name nodes later) fine right within =
        let f = head_of name list_form in
        let rest = later_right g n k earlier f (field_heads later) fine in
        let child = list_child g n k earlier name (field_heads later) fine in
        beside_fit k (child_number g k name) child.below nodes (trees_in g k later)
        (all_front (λ x. IsRight g x.wanted (class_number g x.class) x.fields) (nodes_beside g (wanted_in g k name) nodes) (nodes_in g k later) right)
        within.0
        (below_fit n k (earlier ++ f ∷ []) later rest
        (all_back (λ x. IsRight g x.wanted (class_number g x.class) x.fields) (nodes_beside g (wanted_in g k name) nodes) (nodes_in g k later) right) within.1)
        (starts_from g n k (earlier ++ f ∷ []) later rest f (child_number g k name)
        (Contains-append_right earlier (f ∷ []) f (here_in f [])) child.is)

    -- and those of nodes beside each other
    beside_fit : (k c : ℕ) → c < length (class_at g k).children → (nodes : WrittenNodes) (later : Forest)
        → AreRight g (nodes_beside g (interface_number g (child_at g k c).interface) nodes) → AreAllWithin greatest nodes
        → FitBelow meant k later → StartsFrom c later → FitBelow meant k (trees_before g c nodes later)
    beside_fit k c below no_nodes later right within fit starts = fit
    beside_fit k c below (node_and class fields nodes) later right within fit starts =
        let j = class_number g class in
        let i = interface_number g (child_at g k c).interface in
        let node = right.0 in
        let under = all_front (λ x. IsRight g x.wanted (class_number g x.class) x.fields) (nodes_in g j fields) (nodes_beside g i nodes) right.1 in
        let beside = all_back (λ x. IsRight g x.wanted (class_number g x.class) x.fields) (nodes_in g j fields) (nodes_beside g i nodes) right.1 in (
          child_fits k c i j below node.interface,
          class_fits i j fields node within.0,
          below_fit node.node j [] fields node.fields under within.0,
          starts_before c nodes later starts,
          beside_fit k c below nodes later beside within.1 fit starts,
        )

    -- trees of one child before others that begin no earlier
    starts_before : (c : ℕ) (nodes : WrittenNodes) (later : Forest) → StartsFrom c later → StartsFrom c (trees_before g c nodes later)
    starts_before c no_nodes later starts = starts
    starts_before c (node_and class _ nodes) later starts = let z : c ≤ c = omega arith in z

  -- the tree of a document without a fault
  pub faultless_is_tree : (node : WrittenNode) → first_node_fault g node ≡ None → IsWithin greatest node
      → IsTreeOf meant (tree_of g node)
  faultless_is_tree node fine within =
      let k = class_number g node.class in
      let right = each_right g 0 (nodes_of g node) fine in
      let own = right.0 in (
        own.interface,
        class_fits (interface_number g g.root) k node.fields own within,
        below_fit own.node k [] node.fields own.fields right.1 within,
        refl,
        refl,
      )
