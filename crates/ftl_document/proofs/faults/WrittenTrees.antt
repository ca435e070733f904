-- The written document of a tree means that tree.
use Rattle.std.proofs.Common.{◌≡◌, ℕ, suc, ◌+◌, ◌<◌, ◌≤◌, ◌==◌, nat_lt, Bool, true, false, cond, if◌then◌else◌, refl, sym, ◌∙◌, ap, ap₂, subst, ⊎_elim, arith, List, [], ◌∷◌, ◌++◌, length, map, filter, flat_map, Contains, Some, None, ℤ}
use Rattle.std.specs.List.{position_or_len}
use Rattle.std.specs.Str.{bytes_eq}
use Rattle.std.proofs.lemmas.Bool.{eqb-true, lt-ltb}
use Rattle.std.proofs.lemmas.List.{get_or-map, length-map}
use Rattle.ftl_model.specs.lists.Lists.{AreDistinct, NoneFalls}
use Rattle.ftl_model.proofs.lists.Elements.{distinct_left, here_in, in_cases, in_filter, later_in, nothing_in}
use Rattle.ftl_model.proofs.lists.Rising.{in_map, map_has}
use Rattle.ftl_model.specs.layout.AttributeGrammar.{AttributeGrammar}
use Rattle.ftl_model.specs.layout.Tree.{Forest, count_in, none, tree}
use Rattle.ftl_model.specs.layout.TreeOf.{FitBelow, FitsClass, IsTreeOf, StartsFrom}
use Rattle.ftl_grammar.specs.syntax.Trees as trees
use Rattle.ftl_grammar.specs.declared.syntax.rules.AttrDecl.{AttrDecl}
use Rattle.ftl_grammar.specs.declared.syntax.rules.Child.{Child}
use Rattle.ftl_grammar.specs.declared.syntax.rules.Class.{Class}
use Rattle.ftl_grammar.specs.declared.syntax.rules.Grammar.{Grammar}
use Rattle.ftl_document.specs.syntax.Written.{NameText, WrittenFields, list_field, no_fields, number_field}
use Rattle.ftl_meaning.specs.faults.Checked.{class_named, is_input}
use Rattle.ftl_meaning.specs.faults.FirstFault as grammars
use Rattle.ftl_meaning.specs.faults.Numbering.{child_at, children_of, class_at, class_attributes, class_names}
use Rattle.ftl_meaning.specs.grammars.GrammarOf.{grammar_of}
use Rattle.ftl_meaning.proofs.lawful.Numbers.{in_numbered}
use Rattle.ftl_document.specs.faults.DocumentTree.{inputs_in, number_named, tree_of, trees_before, trees_in}
use Rattle.ftl_document.specs.faults.FirstFault.{input_names}
use Rattle.ftl_document.specs.faults.Nodes.{child_by, child_number, class_number, number_or_zero}
use Rattle.ftl_document.specs.faults.WrittenOf.{WrittenKid, child_field, child_fields, fields_from, input_fields, kids_in, nodes_from, single_field, written_kids, written_of}
use Rattle.ftl_document.proofs.faults.ChildNames.{attribute_names_of, child_found, child_names_of, class_names_differ, class_names_once}
use Rattle.ftl_meaning.proofs.names.Names.{name_itself, names_differ}
use Rattle.ftl_document.proofs.faults.Groups.{groups_are_all}
use Rattle.ftl_document.proofs.fields.ExpectedPlaces.{own_place}
use Rattle.ftl_document.proofs.faults.RightInputs.{inputs_counted}

-- ---- inputs

-- a name that is none of these changes nothing
others_named : (name : NameText) (n : ℤ) (later : WrittenFields) (names : List NameText) → (Contains names name → ⊥)
    → map (number_named (number_field name n later)) names ≡ map (number_named later) names
others_named name n later [] apart = refl
others_named name n later (other ∷ names) apart =
    ap₂ (λ (x : ℤ) xs. x ∷ xs)
    (ap (λ b. if b then n else number_named later other)
    (names_differ other name (λ same. apart (subst (Contains (other ∷ names)) same (here_in other names)))))
    (others_named name n later names (λ there. apart (later_in other name names there)))

-- the numbers of inputs as they were written
pub inputs_back : (names : List NameText) (numbers : List ℤ) (later : WrittenFields) → AreDistinct names
    → length names ≡ length numbers → map (number_named (input_fields names numbers later)) names ≡ numbers
inputs_back [] [] later differ same = refl
inputs_back [] (n ∷ numbers) later differ same = absurd (let z : ⊥ = omega (arith, same) in z)
inputs_back (name ∷ names) [] later differ same = absurd (let z : ⊥ = omega (arith, same) in z)
inputs_back (name ∷ names) (n ∷ numbers) later differ same =
    ap₂ (λ (x : ℤ) xs. x ∷ xs)
    (ap (λ b. if b then n else number_named (input_fields names numbers later) name) (name_itself name))
    (others_named name n (input_fields names numbers later) names differ.0
    ∙ inputs_back names numbers later differ.1 (omega (arith, same)))

-- names of some entries differ where those of all do
distinct_filtered : {X : Type 0} (f : X → NameText) (p : X → Bool) (xs : List X) → AreDistinct (map f xs) → AreDistinct (map f (filter p xs))
distinct_filtered f p [] h = tt
distinct_filtered f p (x ∷ xs) h = by_test (p x) (distinct_filtered f p xs h.1)
  where
    by_test : (b : Bool) → AreDistinct (map f (filter p xs)) → AreDistinct (map f (cond b (x ∷ filter p xs) (filter p xs)))
    by_test true rest = (
      (λ again.
          let from = in_map f (filter p xs) (f x) again in
          h.0 (subst (Contains (map f xs)) from.is (map_has f xs from.from (in_filter p xs from.from from.there).0))),
      rest,
    )
    by_test false rest = rest

-- ---- places of names

module _ (g : Grammar) (lawful : grammars.first_fault g ≡ None) where
  -- the name of each class stands for the class
  pub class_back : (k : ℕ) → k < length g.classes → class_number g (class_at g k).name ≡ k
  class_back k below =
      let counted : k < length (class_names g) = omega (arith, below, length-map g.classes (λ (x : Class). x.name)) in
      ap (λ name. position_or_len (bytes_eq name) (class_names g))
      (sym (get_or-map (λ (x : Class). x.name) g.classes k (trees.class [] [] [] [] []) [] below))
      ∙ own_place (class_names g) k (class_names_once g lawful) counted

  pub class_found : (k : ℕ) → k < length g.classes → class_named g (class_at g k).name ≡ Some k
  class_found k below =
      let counted : k < length (class_names g) = omega (arith, below, length-map g.classes (λ (x : Class). x.name)) in
      ap (λ l. cond (nat_lt l (length (class_names g))) (Some l) None) (class_back k below)
      ∙ ap (λ b. cond b (Some k) None) (lt-ltb k (length (class_names g)) counted)

  -- the names of a class's inputs differ
  pub inputs_differ : (k : ℕ) → k < length g.classes → AreDistinct (input_names g k)
  inputs_differ k below =
      distinct_filtered (λ (x : ℕ × AttrDecl). x.1.name) (λ (x : ℕ × AttrDecl). is_input x.1.kind) (class_attributes g k)
      (distinct_left (attribute_names_of g k) (child_names_of g k) (class_names_differ g lawful k below))

  -- ---- kids

  -- the trees of some kids, and then later ones
  abbrev pub forest_from : List WrittenKid → Forest → Forest
  forest_from [] later = later
  forest_from (x ∷ kids) later =
      tree (class_number g x.class) x.child (inputs_in g (class_number g x.class) x.fields)
      (trees_in g (class_number g x.class) x.fields) (forest_from kids later)

  forest-append : (xs ys : List WrittenKid) (later : Forest) → forest_from (xs ++ ys) later ≡ forest_from xs (forest_from ys later)
  forest-append [] ys later = refl
  forest-append (x ∷ xs) ys later =
      ap
      (tree (class_number g x.class) x.child (inputs_in g (class_number g x.class) x.fields) (trees_in g (class_number g x.class) x.fields))
      (forest-append xs ys later)

  -- kids in one child, as nodes beside each other
  nodes_back : (c : ℕ) (kids : List WrittenKid) (later : Forest) → ((x : WrittenKid) → Contains kids x → x.child ≡ c)
      → trees_before g c (nodes_from kids) later ≡ forest_from kids later
  nodes_back c [] later own = refl
  nodes_back c (x ∷ kids) later own =
      ap₂
      (λ d rest. tree (class_number g x.class) d (inputs_in g (class_number g x.class) x.fields) (trees_in g (class_number g x.class) x.fields) rest)
      (sym (own x (here_in x kids))) (nodes_back c kids later (λ y there. own y (later_in x y kids there)))

  -- the one kid of a single child
  single_back : (k c : ℕ) (name : NameText) (kids : List WrittenKid) (later : WrittenFields) → child_number g k name ≡ c
      → ((x : WrittenKid) → Contains kids x → x.child ≡ c) → length kids ≡ 1
      → trees_in g k (single_field name kids later) ≡ forest_from kids (trees_in g k later)
  single_back k c name [] later number own one = absurd (let z : ⊥ = omega (arith, one) in z)
  single_back k c name (x ∷ []) later number own one =
      ap
      (λ d. tree (class_number g x.class) d (inputs_in g (class_number g x.class) x.fields) (trees_in g (class_number g x.class) x.fields) (trees_in g k later))
      (number ∙ sym (own x (here_in x [])))
  single_back k c name (x ∷ (y ∷ kids)) later number own one = absurd (let z : ⊥ = omega (arith, one) in z)

  -- the field of a child is that child's, and a single child has one kid
  pub record HasField (k : ℕ) (kids : List WrittenKid) (c : ℕ × Child) : Type 0 where
    pub number : child_number g k c.1.name ≡ c.0
    pub single : c.1.many ≡ false → length (kids_in c.0 kids) ≡ 1

  child_back : (k : ℕ) (c : ℕ × Child) (kids : List WrittenKid) (later : WrittenFields) → HasField k kids c
      → trees_in g k (child_field c.1 (kids_in c.0 kids) later) ≡ forest_from (kids_in c.0 kids) (trees_in g k later)
  child_back k c kids later has = by_test c.1.many refl
    where
      own : (x : WrittenKid) → Contains (kids_in c.0 kids) x → x.child ≡ c.0
      own x there = eqb-true x.child c.0 (in_filter (λ (x : WrittenKid). x.child == c.0) kids x there).1

      by_test : (b : Bool) → c.1.many ≡ b
          → trees_in g k (if b then list_field c.1.name (nodes_from (kids_in c.0 kids)) later else single_field c.1.name (kids_in c.0 kids) later)
          ≡ forest_from (kids_in c.0 kids) (trees_in g k later)
      by_test true e =
          nodes_back (child_number g k c.1.name) (kids_in c.0 kids) (trees_in g k later)
          (λ x there. own x there ∙ sym has.number)
      by_test false e = single_back k c.0 c.1.name (kids_in c.0 kids) later has.number own (has.single e)

  children_back : (k : ℕ) (cs : List (ℕ × Child)) (kids : List WrittenKid)
      → ((c : ℕ × Child) → Contains cs c → HasField k kids c)
      → trees_in g k (child_fields cs kids) ≡ forest_from (flat_map (λ c. kids_in c.0 kids) cs) none
  children_back k [] kids each = refl
  children_back k (c ∷ cs) kids each =
      child_back k c kids (child_fields cs kids) (each c (here_in c cs))
      ∙ ap (forest_from (kids_in c.0 kids)) (children_back k cs kids (λ d there. each d (later_in c d cs there)))
      ∙ sym (forest-append (kids_in c.0 kids) (flat_map (λ c. kids_in c.0 kids) cs) none)

  -- inputs have no trees
  trees_after : (k : ℕ) (names : List NameText) (numbers : List ℤ) (later : WrittenFields)
      → trees_in g k (input_fields names numbers later) ≡ trees_in g k later
  trees_after k [] numbers later = refl
  trees_after k (name ∷ names) [] later = refl
  trees_after k (name ∷ names) (n ∷ numbers) later = trees_after k names numbers later

  module _ (greatest : ℕ) where
    abbrev meant : AttributeGrammar
    meant = grammar_of greatest g

    -- ---- the order of kids

    -- no kid stands in an earlier child than the first may
    pub kids_from : (k c : ℕ) (f : Forest) → StartsFrom c f → FitBelow meant k f
        → (x : WrittenKid) → Contains (written_kids g f) x → (c ≤ x.child) × (x.child < length (class_at g k).children)
    kids_from k c none starts fit x there = absurd (nothing_in x there)
    kids_from k c (tree class child inputs below beside) starts fit x there =
        ⊎_elim
        (λ same.
        let known = fit.0.declared in
        (subst (λ (y : WrittenKid). c ≤ y.child) same starts, subst (λ (y : WrittenKid). y.child < length (class_at g k).children) same known))
        (λ later.
        let rest = kids_from k child beside fit.3 fit.4 x later in
        let up = rest.0 in ((let z : c ≤ x.child = omega (arith, starts, up) in z), rest.1))
        (in_cases
        (record {
          child = child;
          class = (class_at g class).name;
          fields = fields_from g class inputs (written_kids g below);
        })
        x (written_kids g beside) there)

    pub kids_rise : (k : ℕ) (f : Forest) → FitBelow meant k f → NoneFalls (λ (x : WrittenKid). x.child) (written_kids g f)
    kids_rise k none fit = tt
    kids_rise k (tree class child inputs below beside) fit =
        ((λ x there. (kids_from k child beside fit.3 fit.4 x there).0), kids_rise k beside fit.4)

    -- as many kids as trees
    pub kids_counted : (c : ℕ) (f : Forest) → length (kids_in c (written_kids g f)) ≡ count_in c f
    kids_counted c none = refl
    kids_counted c (tree class child inputs below beside) =
        by_test
        (record {
          child = child;
          class = (class_at g class).name;
          fields = fields_from g class inputs (written_kids g below);
        })
        (child == c) (kids_counted c beside)
      where
        by_test : (x : WrittenKid) (b : Bool) → length (kids_in c (written_kids g beside)) ≡ count_in c beside
            → length (cond b (x ∷ kids_in c (written_kids g beside)) (kids_in c (written_kids g beside)))
            ≡ (if b then suc (count_in c beside) else count_in c beside)
        by_test x true rest = ap suc rest
        by_test x false rest = rest

    starts_anywhere : (f : Forest) → StartsFrom 0 f
    starts_anywhere none = tt
    starts_anywhere (tree class child inputs below beside) = let z : 0 ≤ child = omega arith in z

    -- ---- nodes

    -- each child of a node of a tree has its field
    pub has_fields : (k : ℕ) (inputs : List ℤ) (below : Forest) → FitsClass meant k inputs below
        → (c : ℕ × Child) → Contains (children_of g k) c → HasField k (written_kids g below) c
    has_fields k inputs below fits c there =
        let s = in_numbered 0 (class_at g k).children c there in
        let known = s.known in
        let number = s.number in
        let at : child_at g k c.0 ≡ c.1 =
        ap (child_at g k) (let z : c.0 ≡ s.place = omega (arith, number) in z) ∙ s.is (trees.child [] [] false) in
        let below' : c.0 < length (class_at g k).children = omega (arith, known, number) in
        record {
          number =
              ap (λ (x : Child). child_number g k x.name) (sym at)
              ∙ ap (λ o. number_or_zero (child_by o)) (child_found g lawful k c.0 fits.known below');
          single = λ single.
              kids_counted c.0 below
              ∙ fits.singles c.0 below' (ap (λ (x : Child). x.many) at ∙ single);
        }

    -- the inputs of a node as it is written
    pub node_inputs : (k : ℕ) (inputs : List ℤ) (below : Forest) → FitsClass meant k inputs below
        → inputs_in g k (fields_from g k inputs (written_kids g below)) ≡ inputs
    node_inputs k inputs below fits =
        inputs_back (input_names g k) inputs (child_fields (children_of g k) (written_kids g below))
        (inputs_differ k fits.known)
        (sym (length-map (input_names g k) (number_named no_fields)) ∙ inputs_counted greatest g k no_fields ∙ sym fits.count)

    -- and the trees below it
    pub node_trees : (k : ℕ) (inputs : List ℤ) (below : Forest) → FitsClass meant k inputs below → FitBelow meant k below
        → forest_from (written_kids g below) none ≡ below
        → trees_in g k (fields_from g k inputs (written_kids g below)) ≡ below
    node_trees k inputs below fits fit back =
        trees_after k (input_names g k) inputs (child_fields (children_of g k) (written_kids g below))
        ∙ children_back k (children_of g k) (written_kids g below) (has_fields k inputs below fits)
        ∙ ap (λ kids. forest_from kids none)
        (groups_are_all (λ (x : WrittenKid). x.child) 0 (class_at g k).children (written_kids g below) (kids_rise k below fit)
        (λ x there.
        let within = kids_from k 0 below (starts_anywhere below) fit x there in
        let high = within.1 in
        (within.0, (let z : x.child < 0 + length (class_at g k).children = omega (arith, high) in z))))
        ∙ back

    -- the trees below a node, each as it is written
    pub kids_back : (k : ℕ) (f : Forest) → FitBelow meant k f → forest_from (written_kids g f) none ≡ f
    kids_back k none fit = refl
    kids_back k (tree class child inputs below beside) fit =
        ap (λ m. tree m child (inputs_in g m fields) (trees_in g m fields) (forest_from (written_kids g beside) none))
        (class_back class fit.1.known)
        ∙ ap (λ is. tree class child is (trees_in g class fields) (forest_from (written_kids g beside) none))
        (node_inputs class inputs below fit.1)
        ∙ ap₂ (λ ts rest. tree class child inputs ts rest)
        (node_trees class inputs below fit.1 fit.2 (kids_back class below fit.2)) (kids_back k beside fit.4)
      where
        fields : WrittenFields
        fields = fields_from g class inputs (written_kids g below)

    -- the document of a tree means the tree
    pub tree_back : (t : Forest) → IsTreeOf meant t → tree_of g (written_of g t) ≡ t
    tree_back none is = absurd is
    tree_back (tree class child inputs below beside) is =
        ap (λ m. tree m 0 (inputs_in g m fields) (trees_in g m fields) none) (class_back class is.1.known)
        ∙ ap (λ ns. tree class 0 ns (trees_in g class fields) none) (node_inputs class inputs below is.1)
        ∙ ap (λ ts. tree class 0 inputs ts none)
        (node_trees class inputs below is.1 is.2 (kids_back class below is.2))
        ∙ ap₂ (λ c rest. tree class c inputs below rest) (sym is.3) (sym is.4)
      where
        fields : WrittenFields
        fields = fields_from g class inputs (written_kids g below)
