-- What stands at the place of a name among those of a class.
use Rattle.std.proofs.Common.{◌≡◌, ℕ, ◌+◌, ◌-◌, ◌<◌, ◌≤◌, Bool, true, false, cond, if◌then◌else◌, refl, sym, ◌∙◌, ap, subst, ◌⊎◌, inl, inr, ⊎_elim, arith, List, [], ◌∷◌, ◌++◌, length, get_or, map, filter, length-append, Contains, Option, Some, None}
use Rattle.std.specs.List.{position}
use Rattle.std.specs.Str.{bytes_eq}
use Rattle.std.proofs.lemmas.Bool.{cases_lt}
use Rattle.std.proofs.lemmas.List.{get_or-append-add, get_or_append_left, get_or-map, length-map}
use Rattle.std.proofs.lemmas.List.Elements.{Contains-append_cases, Contains-append_left, Contains-append_right, Contains-get_or}
use Rattle.std.proofs.lemmas.List.Quantifiers.{position-Some}
use Rattle.ftl_model.specs.lists.Lists.{AreDistinct}
use Rattle.ftl_model.proofs.lists.Elements.{filter_has, in_filter}
use Rattle.ftl_model.proofs.lists.Rising.{in_map, map_has}
use Rattle.ftl_order.proofs.dependencies.Places.{none_passes}
use Rattle.ftl_grammar.specs.syntax.Trees as trees
use Rattle.ftl_grammar.specs.syntax.Trees.{NameText}
use Rattle.ftl_grammar.specs.declared.syntax.rules.AttrDecl.{AttrDecl}
use Rattle.ftl_grammar.specs.declared.syntax.rules.Child.{Child}
use Rattle.ftl_grammar.specs.declared.syntax.rules.Grammar.{Grammar}
use Rattle.ftl_meaning.specs.faults.Checked.{field_by, field_named, is_input}
use Rattle.ftl_meaning.specs.faults.FirstFault as grammars
use Rattle.ftl_meaning.specs.faults.Numbering.{child_at, children_of, class_at, class_attributes, find_attribute, find_child}
use Rattle.ftl_meaning.specs.declared.faults.info.Field.TheVariants as field
use Rattle.ftl_meaning.proofs.lawful.Found.{find_is}
use Rattle.ftl_document.specs.faults.FirstFault.{input_names, needed_names}
use Rattle.ftl_document.proofs.fields.ClassNames.{needed_are}
use Rattle.ftl_document.proofs.faults.ChildNames.{child_found, child_names_of, class_names_differ, input_stands}
use Rattle.ftl_meaning.proofs.names.Names.{name_itself, same_name}

-- fewer of the first names differ still
module _ {X : Type 0} (p : X → Bool) (f : X → NameText) (ys : List NameText) where
  still_in : (xs : List X) (z : NameText) → Contains (map f (filter p xs) ++ ys) z → Contains (map f xs ++ ys) z
  still_in xs z there =
      ⊎_elim
      (λ left.
      let m = in_map f (filter p xs) z left in
      subst (Contains (map f xs ++ ys)) m.is
      (Contains-append_left (map f xs) ys (f m.from) (map_has f xs m.from (in_filter p xs m.from m.there).0)))
      (λ right. Contains-append_right (map f xs) ys z right) (Contains-append_cases (map f (filter p xs)) ys z there)

  fewer_differ : (xs : List X) → AreDistinct (map f xs ++ ys) → AreDistinct (map f (filter p xs) ++ ys)
  fewer_differ [] h = h
  fewer_differ (x ∷ xs) h = by_test (p x) (fewer_differ xs h.1)
    where
      by_test : (b : Bool) → AreDistinct (map f (filter p xs) ++ ys)
          → AreDistinct (map f (cond b (x ∷ filter p xs) (filter p xs)) ++ ys)
      by_test true rest = ((λ there. h.0 (still_in xs (f x) there)), rest)
      by_test false rest = rest

-- a name at a place
pub record IsAt (g : Grammar) (k : ℕ) (name : NameText) (i : ℕ) : Type 0 where
  pub below : i < length (needed_names g k)
  pub is : get_or (needed_names g k) i [] ≡ name

-- what a name stands for that is found at this place
pub record InputAt (g : Grammar) (k i : ℕ) (name : NameText) : Type 0 where
  pub below : i < length (input_names g k)
  pub number : ℕ
  pub stands : field_named g k name ≡ Some (field.Input number)

pub record ChildAt (g : Grammar) (k i : ℕ) (name : NameText) : Type 0 where
  pub from : length (input_names g k) ≤ i
  pub known : i - length (input_names g k) < length (class_at g k).children
  pub stands : field_named g k name ≡ Some (field.Child (i - length (input_names g k)))

module _ (g : Grammar) (lawful : grammars.first_fault g ≡ None) (k : ℕ) (known : k < length g.classes) where
  -- all names of inputs and children differ
  pub needed_differ : AreDistinct (needed_names g k)
  needed_differ =
      fewer_differ (λ (a : ℕ × AttrDecl). is_input a.1.kind) (λ (a : ℕ × AttrDecl). a.1.name) (child_names_of g k)
      (class_attributes g k) (class_names_differ g lawful k known)

  pub is_at : (name : NameText) (i : ℕ) → position (bytes_eq name) (needed_names g k) ≡ Some i → IsAt g k name i
  is_at name i found =
      let at = position-Some (bytes_eq name) (needed_names g k) i [] found in
      record { below = at.0; is = sym (same_name name (get_or (needed_names g k) i []) at.1) }

  pub needed_length : length (needed_names g k) ≡ length (input_names g k) + length (class_at g k).children
  needed_length =
      ap length (needed_are g k)
      ∙ length-append (input_names g k) (map (λ (c : Child). c.name) (class_at g k).children)
      ∙ ap (λ n. length (input_names g k) + n) (length-map (class_at g k).children (λ (c : Child). c.name))

  pub at_place : (name : NameText) (i : ℕ) → IsAt g k name i → InputAt g k i name ⊎ ChildAt g k i name
  at_place name i at =
      ⊎_elim
      (λ less.
      let same : get_or (input_names g k) i [] ≡ name =
      sym (get_or_append_left (input_names g k) (child_names_of g k) [] i less) ∙ at.is in
      let stands = input_stands g lawful k known name (subst (Contains (input_names g k)) same (Contains-get_or (input_names g k) i [] less)) in
      inl (record { below = less; number = stands.0; stands = stands.1 }))
      (λ past.
      let below = at.below in
      let long = needed_length in
      let number : i ≡ length (input_names g k) + (i - length (input_names g k)) = omega (arith, past) in
      let within : i - length (input_names g k) < length (class_at g k).children = omega (arith, past, below, long) in
      let called : (child_at g k (i - length (input_names g k))).name ≡ name =
      sym
      (ap (λ ns. get_or ns i []) (needed_are g k)
      ∙ ap (λ j. get_or (input_names g k ++ map (λ (c : Child). c.name) (class_at g k).children) j []) number
      ∙ get_or-append-add (input_names g k) (map (λ (c : Child). c.name) (class_at g k).children) (i - length (input_names g k)) []
      ∙ get_or-map (λ (c : Child). c.name) (class_at g k).children (i - length (input_names g k)) (trees.child [] [] false) [] within)
      ∙ at.is in
      inr (record {
        from = past;
        known = within;
        stands = ap (field_named g k) (sym called) ∙ child_found g lawful k (i - length (input_names g k)) known within;
      }))
      (cases_lt i (length (input_names g k)))

  -- a name that isn't there stands for nothing
  pub at_none : (name : NameText) → position (bytes_eq name) (needed_names g k) ≡ None → field_named g k name ≡ None
  at_none name none =
      by_attribute (find_attribute name (class_attributes g k)) refl
    where
      not_there : Contains (needed_names g k) name → ⊥
      not_there there = none_passes (bytes_eq name) (needed_names g k) none name there (name_itself name)

      by_child : (o : Option (ℕ × Child)) → find_child g k name ≡ o → field_by None o ≡ None
      by_child None e = refl
      by_child (Some c) e =
          let found = find_is (λ (y : ℕ × Child). bytes_eq name y.1.name) (children_of g k) c e in
          absurd
          (not_there
          (Contains-append_right (input_names g k) (child_names_of g k) name
          (subst (Contains (child_names_of g k)) (sym (same_name name c.1.name found.1))
          (map_has (λ (y : ℕ × Child). y.1.name) (children_of g k) c found.0))))

      by_kind : (a : ℕ × AttrDecl) → Contains (class_attributes g k) a → name ≡ a.1.name → (b : Bool)
          → is_input a.1.kind ≡ b → (if b then Some (field.Input a.0) else None) ≡ None
      by_kind a there is false e = refl
      by_kind a there is true e =
          absurd
          (not_there
          (Contains-append_left (input_names g k) (child_names_of g k) name
          (subst (Contains (input_names g k)) (sym is)
          (map_has (λ (x : ℕ × AttrDecl). x.1.name) (filter (λ (x : ℕ × AttrDecl). is_input x.1.kind) (class_attributes g k)) a
          (filter_has (λ (x : ℕ × AttrDecl). is_input x.1.kind) (class_attributes g k) a there e)))))

      by_attribute : (o : Option (ℕ × AttrDecl)) → find_attribute name (class_attributes g k) ≡ o
          → field_by o (find_child g k name) ≡ None
      by_attribute None e = by_child (find_child g k name) refl
      by_attribute (Some a) e =
          let found = find_is (λ (y : ℕ × AttrDecl). bytes_eq name y.1.name) (class_attributes g k) a e in
          by_kind a found.0 (same_name name a.1.name found.1) (is_input a.1.kind) refl
