-- The children's fields of a node that has no fault: each is of a child, in the order of declaration, and once.
use Rattle.std.proofs.Common.{◌≡◌, ℕ, suc, ◌<◌, ◌≤◌, ◌==◌, nat_lt, Bool, true, false, ◌||◌, if◌then◌else◌, refl, sym, ◌∙◌, ap, subst, ⊎_elim, arith, List, [], ◌∷◌, ◌++◌, length, Contains, Option, Some, None}
use Rattle.std.specs.List.{list_any}
use Rattle.std.specs.Option.{option_to_list}
use Rattle.std.specs.Str.{bytes_eq}
use Rattle.std.proofs.lemmas.Bool.{eqb-true, eqb-false, ltb-false, ne_eqb, false≢true, not-true, or_parts, true≢false}
use Rattle.std.proofs.lemmas.List.{map-append}
use Rattle.std.proofs.lemmas.List.Elements.{Contains-append_left}
use Rattle.std.proofs.lemmas.List.Folds.{list_any-append}
use Rattle.std.proofs.lemmas.Option.{same_Some}
use Rattle.ftl_model.proofs.lists.Elements.{in_cases, nothing_in}
use Rattle.ftl_model.specs.layout.Tree.{Forest, count_in}
use Rattle.ftl_model.specs.layout.TreeOf.{StartsFrom}
use Rattle.ftl_grammar.specs.syntax.Trees as trees
use Rattle.ftl_grammar.specs.declared.syntax.rules.AttrDecl.{AttrDecl}
use Rattle.ftl_grammar.specs.declared.syntax.rules.Child.{Child}
use Rattle.ftl_grammar.specs.declared.syntax.rules.Grammar.{Grammar}
use Rattle.ftl_document.specs.syntax.Written.{NameText, WrittenFields, WrittenNodes, list_field, no_fields, no_nodes, node_and, node_field, number_field}
use Rattle.ftl_meaning.specs.faults.Checked.{field_by, field_named, input_field, is_input}
use Rattle.ftl_meaning.specs.faults.Numbering.{child_at, children_of, class_at, class_attributes, find_attribute, find_child, is_among}
use Rattle.ftl_meaning.specs.declared.faults.info.Field.{Field}
use Rattle.ftl_meaning.specs.declared.faults.info.Field.TheVariants as field
use Rattle.ftl_meaning.proofs.lawful.Found.{find_is}
use Rattle.ftl_meaning.proofs.lawful.Numbers.{in_numbered}
use Rattle.ftl_document.specs.faults.DocumentTree.{trees_before, trees_in}
use Rattle.ftl_document.specs.faults.FirstFault.{field_faults, first_there, has_form, is_late, is_of_later, names_of}
use Rattle.ftl_document.specs.faults.Nodes.{FieldHead, child_by, child_named, child_number, field_heads, head_of, list_form, node_form, number_form, number_or_zero}
use Rattle.ftl_meaning.proofs.names.Names.{name_itself, names_differ, same_name}
use Rattle.ftl_document.proofs.faults.NoDocFault.{field_right, later_right}

-- ---- one field

-- the name of a field that is of a child is that of the child
record IsChild (g : Grammar) (k c : ℕ) (name : NameText) : Type 0 where
  below : c < length (class_at g k).children
  called : name ≡ (child_at g k c).name

-- an input is no child
input_no_child : (a : ℕ × AttrDecl) (c : ℕ) → input_field a ≡ Some (field.Child c) → ⊥
input_no_child a c h = by_test (is_input a.1.kind) h
  where
    by_test : (b : Bool) → (if b then Some (field.Input a.0) else None) ≡ Some (field.Child c) → ⊥
    by_test true h = grind (arith, h)
    by_test false h = grind (arith, h)

is_child : (g : Grammar) (k c : ℕ) (name : NameText) (a : Option (ℕ × AttrDecl)) (o : Option (ℕ × Child))
    → find_child g k name ≡ o → field_by a o ≡ Some (field.Child c) → IsChild g k c name
is_child g k c name (Some a) o e h = absurd (input_no_child a c h)
is_child g k c name None None e h = absurd (let z : ⊥ = grind (arith, h) in z)
is_child g k c name None (Some x) e h =
    let number : x.0 ≡ c = cc h in
    let found = find_is (λ y. bytes_eq name y.1.name) (children_of g k) x e in
    let s = in_numbered 0 (class_at g k).children x found.0 in
    let known = s.known in
    let place = s.number in
    let at : s.place ≡ c = omega (arith, number, place) in
    record {
      below = omega (arith, known, at);
      called = same_name name x.1.name found.1
          ∙ ap (λ (y : Child). y.name) (sym (ap (child_at g k) (sym at) ∙ s.is (trees.child [] [] false)));
    }

-- what is known of a field of a child that stands after these
pub record ChildIsRight (g : Grammar) (k : ℕ) (earlier : List FieldHead) (name : NameText) (many : Bool) (c : ℕ) : Type 0 where
  pub is : child_named g k name ≡ Some c
  pub below : c < length (class_at g k).children
  pub called : name ≡ (child_at g k c).name
  pub kind : (child_at g k c).many ≡ many
  pub order : list_any (is_of_later g k c) earlier ≡ false

-- by what its name stands for
child_right_by : (g : Grammar) (k : ℕ) (earlier : List FieldHead) (name : NameText) (many : Bool) (x : Field)
    → field_named g k name ≡ Some x → has_form g k x (if many then list_form else node_form) ≡ true
    → is_late g k earlier x ≡ false → ChildIsRight g k earlier name many (child_number g k name)
child_right_by g k earlier name true (field.Input a) named form order = absurd (false≢true form)
child_right_by g k earlier name false (field.Input a) named form order = absurd (false≢true form)
child_right_by g k earlier name many (field.Child c) named form order =
    let is : child_named g k name ≡ Some c = ap child_by named in
    let child = is_child g k c name (find_attribute name (class_attributes g k)) (find_child g k name) refl named in
    subst (ChildIsRight g k earlier name many) (sym (ap number_or_zero is))
    (record {
      is = is;
      below = child.below;
      called = child.called;
      kind = kind many form;
      order = order;
    })
  where
    kind : (many : Bool) → has_form g k (field.Child c) (if many then list_form else node_form) ≡ true
        → (child_at g k c).many ≡ many
    kind true h = h
    kind false h = not-true (child_at g k c).many h

module _ (g : Grammar) (n k : ℕ) where
  -- none of the fields that stand after these has a fault
  abbrev pub AreFine : List FieldHead → List FieldHead → Type 0
  AreFine earlier fields = first_there (field_faults g n k earlier fields) ≡ None

  pub node_child : (earlier : List FieldHead) (name : NameText) (fs : List FieldHead)
      → AreFine earlier (head_of name node_form ∷ fs) → ChildIsRight g k earlier name false (child_number g k name)
  node_child earlier name fs h =
      let f = field_right g n k earlier (head_of name node_form) fs h in
      child_right_by g k earlier name false f.stands f.named f.form f.order

  pub list_child : (earlier : List FieldHead) (name : NameText) (fs : List FieldHead)
      → AreFine earlier (head_of name list_form ∷ fs) → ChildIsRight g k earlier name true (child_number g k name)
  list_child earlier name fs h =
      let f = field_right g n k earlier (head_of name list_form) fs h in
      child_right_by g k earlier name true f.stands f.named f.form f.order

  -- ---- order

  -- a child whose field stands earlier is declared no later
  no_later : (c d : ℕ) (earlier : List FieldHead) (e : FieldHead) → list_any (is_of_later g k d) earlier ≡ false
      → Contains earlier e → child_named g k e.name ≡ Some c → c ≤ d
  no_later c d [] e h there is = absurd (nothing_in e there)
  no_later c d (f ∷ fs) e h there is =
      let parts = or_parts (is_of_later g k d f) (list_any (is_of_later g k d) fs) h in
      ⊎_elim
      (λ same.
      let later : (nat_lt d c || false) ≡ false =
      sym (ap (λ o. list_any (nat_lt d) (option_to_list o)) (ap (λ (x : FieldHead). child_named g k x.name) same ∙ is)) ∙ parts.0 in
      ltb-false d c (or_parts (nat_lt d c) false later).0)
      (λ later. no_later c d fs e parts.1 later is) (in_cases f e fs there)

  -- the trees of later fields stand in no child before that of an earlier field
  pub starts_from : (earlier : List FieldHead) (fields : WrittenFields) → AreFine earlier (field_heads fields)
      → (e : FieldHead) (c : ℕ) → Contains earlier e → child_named g k e.name ≡ Some c → StartsFrom c (trees_in g k fields)
  starts_from earlier no_fields h e c there is = tt
  starts_from earlier (number_field name m later) h e c there is =
      let f = head_of name number_form in
      starts_from (earlier ++ f ∷ []) later (later_right g n k earlier f (field_heads later) h) e c
      (Contains-append_left earlier (f ∷ []) e there) is
  starts_from earlier (node_field name class _ later) h e c there is =
      no_later c (child_number g k name) earlier e (node_child earlier name (field_heads later) h).order there is
  starts_from earlier (list_field name nodes later) h e c there is =
      let f = head_of name list_form in
      by_nodes nodes
      (starts_from (earlier ++ f ∷ []) later (later_right g n k earlier f (field_heads later) h) e c
      (Contains-append_left earlier (f ∷ []) e there) is)
    where
      by_nodes : (nodes : WrittenNodes) → StartsFrom c (trees_in g k later)
          → StartsFrom c (trees_before g (child_number g k name) nodes (trees_in g k later))
      by_nodes no_nodes rest = rest
      by_nodes (node_and class _ nodes) rest =
          no_later c (child_number g k name) earlier e (list_child earlier name (field_heads later) h).order there is

  -- ---- once

  -- a name that stands earlier doesn't stand again
  not_again : (earlier fs : List FieldHead) → AreFine earlier fs → (name : NameText)
      → is_among (names_of earlier) name ≡ true → is_among (names_of fs) name ≡ false
  not_again earlier [] h name there = refl
  not_again earlier (f ∷ fs) h name there =
      by_test (bytes_eq name f.name) refl
      (not_again (earlier ++ f ∷ []) fs (later_right g n k earlier f fs h) name still)
    where
      still : is_among (names_of (earlier ++ f ∷ [])) name ≡ true
      still =
          ap (list_any (bytes_eq name)) (map-append (λ (x : FieldHead). x.name) earlier (f ∷ []))
          ∙ list_any-append (bytes_eq name) (names_of earlier) (f.name ∷ [])
          ∙ ap (λ b. b || list_any (bytes_eq name) (f.name ∷ [])) there

      by_test : (b : Bool) → bytes_eq name f.name ≡ b → is_among (names_of fs) name ≡ false
          → (b || is_among (names_of fs) name) ≡ false
      by_test true e rest =
          absurd
          (true≢false
          (sym there ∙ ap (is_among (names_of earlier)) (same_name name f.name e) ∙ (field_right g n k earlier f fs h).once))
      by_test false e rest = rest

  -- trees in another child count for nothing
  pub count_others : (c d : ℕ) (nodes : WrittenNodes) (later : Forest) → (d == c) ≡ false
      → count_in c (trees_before g d nodes later) ≡ count_in c later
  count_others c d no_nodes later differ = refl
  count_others c d (node_and class _ nodes) later differ =
      ap (λ b. if b then suc (count_in c (trees_before g d nodes later)) else count_in c (trees_before g d nodes later)) differ
      ∙ count_others c d nodes later differ

  -- how often a single child counts, by whether it has a field
  abbrev Counts : List FieldHead → (c : ℕ) → ℕ
  Counts fs c = if is_among (names_of fs) (child_at g k c).name then 1 else 0

  -- a field of another name changes nothing
  other_name : (c : ℕ) (f : FieldHead) (fs : List FieldHead) → bytes_eq (child_at g k c).name f.name ≡ false
      → Counts (f ∷ fs) c ≡ Counts fs c
  other_name c f fs e =
      ap (λ b. if (b || is_among (names_of fs) (child_at g k c).name) then 1 else 0) e

  module _ (c : ℕ) (single : (child_at g k c).many ≡ false)
      (found : field_named g k (child_at g k c).name ≡ Some (field.Child c)) where
    -- an input's name is none of a child's
    input_differs : (earlier : List FieldHead) (name : NameText) (fs : List FieldHead)
        → AreFine earlier (head_of name number_form ∷ fs) → bytes_eq (child_at g k c).name name ≡ false
    input_differs earlier name fs h =
        names_differ (child_at g k c).name name
        (λ same.
        let f = field_right g n k earlier (head_of name number_form) fs h in
        let stands : field.Child c ≡ f.stands =
        same_Some (field.Child c) f.stands (sym found ∙ ap (field_named g k) same ∙ f.named) in
        false≢true (subst (λ x. has_form g k x number_form ≡ true) (sym stands) f.form))

    -- nor is that of another child
    child_differs : (d : ℕ) (name : NameText) → child_named g k name ≡ Some d → (d ≡ c → ⊥)
        → bytes_eq (child_at g k c).name name ≡ false
    child_differs d name is apart =
        names_differ (child_at g k c).name name
        (λ same. apart (same_Some d c (sym is ∙ ap (child_named g k) (sym same) ∙ ap child_by found)))

    -- a single child counts once where it has a field, and else not at all
    pub counts_once : (earlier : List FieldHead) (fields : WrittenFields) → AreFine earlier (field_heads fields)
        → count_in c (trees_in g k fields) ≡ Counts (field_heads fields) c
    counts_once earlier no_fields h = refl
    counts_once earlier (number_field name m later) h =
        let f = head_of name number_form in
        counts_once (earlier ++ f ∷ []) later (later_right g n k earlier f (field_heads later) h)
        ∙ sym (other_name c f (field_heads later) (input_differs earlier name (field_heads later) h))
    counts_once earlier (node_field name class _ later) h =
        by_test (child_number g k name == c) refl (counts_once (earlier ++ head_of name node_form ∷ []) later fine)
      where
        f : FieldHead
        f = head_of name node_form

        fine : AreFine (earlier ++ f ∷ []) (field_heads later)
        fine = later_right g n k earlier f (field_heads later) h

        child : ChildIsRight g k earlier name false (child_number g k name)
        child = node_child earlier name (field_heads later) h

        or_true : (b : Bool) → (b || (true || false)) ≡ true
        or_true true = refl
        or_true false = refl

        by_test : (b : Bool) → (child_number g k name == c) ≡ b
            → count_in c (trees_in g k later) ≡ Counts (field_heads later) c
            → (if b then suc (count_in c (trees_in g k later)) else count_in c (trees_in g k later))
            ≡ Counts (f ∷ field_heads later) c
        by_test true e rest =
            let own = (child_at g k c).name in
            let same : child_number g k name ≡ c = eqb-true (child_number g k name) c e in
            let called : name ≡ own = child.called ∙ ap (λ d. (child_at g k d).name) same in
            let itself : bytes_eq own name ≡ true = subst (λ m. bytes_eq own m ≡ true) (sym called) (name_itself own) in
            let there : is_among (names_of (earlier ++ f ∷ [])) own ≡ true =
            ap (list_any (bytes_eq own)) (map-append (λ (x : FieldHead). x.name) earlier (f ∷ []))
            ∙ list_any-append (bytes_eq own) (names_of earlier) (name ∷ [])
            ∙ ap (λ b. is_among (names_of earlier) own || (b || false)) itself
            ∙ or_true (is_among (names_of earlier) own) in
            let gone : is_among (names_of (field_heads later)) own ≡ false =
            not_again (earlier ++ f ∷ []) (field_heads later) fine own there in
            ap suc (rest ∙ ap (λ b. if b then 1 else 0) gone)
            ∙ sym (ap (λ b. if (b || is_among (names_of (field_heads later)) own) then 1 else 0) itself)
        by_test false e rest =
            rest
            ∙ sym (other_name c f (field_heads later) (child_differs (child_number g k name) name child.is (eqb-false (child_number g k name) c e)))
    counts_once earlier (list_field name nodes later) h =
        let f = head_of name list_form in
        let child = list_child earlier name (field_heads later) h in
        let apart : child_number g k name ≡ c → ⊥ =
        λ same. true≢false (sym child.kind ∙ ap (λ d. (child_at g k d).many) same ∙ single) in
        count_others c (child_number g k name) nodes (trees_in g k later) (ne_eqb (child_number g k name) c apart)
        ∙ counts_once (earlier ++ f ∷ []) later (later_right g n k earlier f (field_heads later) h)
        ∙ sym (other_name c f (field_heads later) (child_differs (child_number g k name) name child.is apart))
