-- The fault of a field by the place of its name, and what the slots are after it.
use Rattle.std.proofs.Common.{◌≡◌, ◌⊎◌, ℕ, zero, suc, ◌+◌, ◌-◌, ◌<◌, ◌≤◌, Bool, true, false, not, ◌||◌, nat_lt, if◌then◌else◌, refl, sym, ◌∙◌, ap, ap₂, ⊎_elim, arith, List, [], ◌∷◌, ◌++◌, length, get_or, set, map, Option, Some, None}
use Rattle.std.specs.List.{list_any, position}
use Rattle.std.specs.Option.{is_some, option_to_list}
use Rattle.std.specs.Str.{bytes_eq}
use Rattle.std.proofs.lemmas.Bool.{cases_lt}
use Rattle.std.proofs.lemmas.Bool.Decides.{nat_tests}
use Rattle.std.proofs.lemmas.List.{get_or-map, map-append}
use Rattle.std.proofs.lemmas.List.Folds.{list_any-append}
use Rattle.ftl_grammar.specs.declared.syntax.rules.Grammar.{Grammar}
use Rattle.ftl_meaning.specs.faults.FirstFault as grammars
use Rattle.ftl_meaning.specs.faults.Numbering.{is_among}
use Rattle.ftl_meaning.specs.declared.faults.info.Field.TheVariants as field
use Rattle.ftl_document.specs.faults.FirstFault.{fault_if, field_fault, field_fault_by, first_there, has_form, input_names, is_of_later, names_of, needed_names}
use Rattle.ftl_document.specs.faults.Nodes.{FieldForm, child_by, list_form, node_form, number_form}
use Rattle.ftl_document.specs.declared.faults.fault.DocFault.{DocFault}
use Rattle.ftl_document.specs.declared.faults.fault.DocFault.TheVariants as fault
use Rattle.ftl_document.specs.fields.OwnFields.{form_of, head_in, number_of, slot_of}
use Rattle.ftl_document.specs.fields.Placed.{ArePlaced, place_has_form}
use Rattle.ftl_document.specs.declared.fields.own_field.OwnField.{OwnField}
use Rattle.ftl_document.specs.declared.fields.node_fields.Slots.{Slots}
use Rattle.ftl_document.proofs.fields.PlacedNames.{ChildAt, InputAt, IsAt, at_none, at_place, is_at, needed_differ}
use Rattle.ftl_document.proofs.fields.FilledSlots.{slot_among, slot_filled}

below_true : (a b : ℕ) → a < b → nat_lt a b ≡ true
below_true a b h = grind (arith, nat_tests)

above_false : (a b : ℕ) → b ≤ a → nat_lt a b ≡ false
above_false a b h = grind (arith, nat_tests)

or_true : (b : Bool) → (b || true) ≡ true
or_true true = refl
or_true false = refl

or_false : (b : Bool) → (b || false) ≡ b
or_false true = refl
or_false false = refl

is_empty : {X : Type 0} (o : Option X) → is_some o ≡ false → o ≡ None
is_empty None e = refl
is_empty (Some x) e = absurd (let z : ⊥ = cc e in z)

-- what stands at a place within a list has no need of another value
pub same_at : {X : Type 0} (xs : List X) (i : ℕ) (d e : X) → i < length xs → get_or xs i d ≡ get_or xs i e
same_at [] i d e below = absurd (let z : ⊥ = omega (arith, below) in z)
same_at (x ∷ xs) zero d e below = refl
same_at (x ∷ xs) (suc i) d e below = same_at xs i d e (omega (arith, below))

-- whether a slot is full, as code tests it
pub seen_as : {X : Type 0} (xs : List (Option X)) (i room : ℕ) (o : Option X) (r b : Bool) → i < room → length xs ≡ room
    → o ≡ get_or xs i o → r ≡ is_some o → r ≡ b → is_some (get_or xs i None) ≡ b
seen_as xs i room o r b below long at is test =
    ap is_some (same_at xs i None o (omega (arith, below, long)) ∙ sym at) ∙ sym is ∙ test

-- the last child that came, after one more
late_step : (latest i n c : ℕ) → latest ≤ i → n ≤ i
    → (nat_lt (n + c) latest || ((nat_lt c (i - n) || false) || false)) ≡ nat_lt (n + c) i
late_step latest i n c late from =
    ⊎_elim
    (λ less.
    ap (λ b. nat_lt (n + c) latest || ((b || false) || false)) (below_true c (i - n) less)
    ∙ or_true (nat_lt (n + c) latest) ∙ sym (below_true (n + c) i (omega (arith, less, from))))
    (λ more.
    ap₂ (λ a b. a || ((b || false) || false)) (above_false (n + c) latest (omega (arith, more, from, late)))
    (above_false c (i - n) more)
    ∙ sym (above_false (n + c) i (omega (arith, more, from))))
    (cases_lt c (i - n))

-- every input has the same form
input_form : (g : Grammar) (k a b : ℕ) (form : FieldForm) → has_form g k (field.Input a) form ≡ has_form g k (field.Input b) form
input_form g k a b number_form = refl
input_form g k a b node_form = refl
input_form g k a b list_form = refl

module _ (g : Grammar) (lawful : grammars.first_fault g ≡ None) (k : ℕ) (known : k < length g.classes)
    (earlier : List OwnField) (s : Slots) (placed : ArePlaced g k earlier s) (f : OwnField) (n : ℕ) where
  abbrev Fault : Option DocFault
  Fault = field_fault g n k (map head_in earlier) (head_in f)

  abbrev inputs : ℕ
  inputs = length (input_names g k)

  -- the name is none of the class
  pub unknown_field : position (bytes_eq f.name) (needed_names g k) ≡ None → Fault ≡ Some (fault.UnknownField n f.name)
  unknown_field none =
      ap (field_fault_by g n k (map head_in earlier) (head_in f)) (at_none g lawful k known f.name none)

  module _ (i : ℕ) (found : position (bytes_eq f.name) (needed_names g k) ≡ Some i) where
    here : IsAt g k f.name i
    here = is_at g lawful k known f.name i found

    slot_is : get_or s.values.items i None ≡ slot_of earlier f.name
    slot_is =
        ap (λ xs. get_or xs i None) placed.values
        ∙ get_or-map (slot_of earlier) (needed_names g k) i [] None here.below
        ∙ ap (slot_of earlier) here.is

    among : is_among (names_of (map head_in earlier)) f.name ≡ is_some (get_or s.values.items i None)
    among = sym (ap is_some slot_is ∙ slot_among earlier f.name)

    abbrev Tests : (twice form order : Bool) → Option DocFault
    Tests twice form order =
        first_there (
        fault_if twice (fault.FieldTwice n f.name) ∷ fault_if (not form) (fault.FieldForm n f.name)
        ∷ fault_if order (fault.FieldOrder n f.name) ∷ []
        )

    tests : Fault ≡ Tests (is_some (get_or s.values.items i None)) (place_has_form g k i (form_of f.value)) (if nat_lt i inputs then false else nat_lt i s.latest)
    tests =
        ⊎_elim
        (λ (a : InputAt g k i f.name).
        let less = below_true i inputs a.below in
        ap (field_fault_by g n k (map head_in earlier) (head_in f)) a.stands
        ∙ ap₂ (λ twice form. Tests twice form false) among
        (input_form g k a.number i (form_of f.value)
        ∙ sym (ap (λ b. if b then has_form g k (field.Input i) (form_of f.value) else has_form g k (field.Child (i - inputs)) (form_of f.value)) less))
        ∙ ap (λ b. Tests (is_some (get_or s.values.items i None)) (place_has_form g k i (form_of f.value)) (if b then false else nat_lt i s.latest)) (sym less))
        (λ (c : ChildAt g k i f.name).
        let from = c.from in
        let more = above_false i inputs from in
        ap (field_fault_by g n k (map head_in earlier) (head_in f)) c.stands
        ∙ ap₂ (λ twice order. Tests twice (has_form g k (field.Child (i - inputs)) (form_of f.value)) order) among
        (placed.latest (i - inputs) ∙ ap (λ m. nat_lt m s.latest) (let z : inputs + (i - inputs) ≡ i = omega (arith, from) in z))
        ∙ ap₂ (λ form order. Tests (is_some (get_or s.values.items i None)) form order)
        (sym (ap (λ b. if b then has_form g k (field.Input i) (form_of f.value) else has_form g k (field.Child (i - inputs)) (form_of f.value)) more))
        (sym (ap (λ b. if b then false else nat_lt i s.latest) more)))
        (at_place g lawful k known f.name i here)

    pub field_twice : is_some (get_or s.values.items i None) ≡ true → Fault ≡ Some (fault.FieldTwice n f.name)
    field_twice e =
        tests
        ∙ ap (λ b. Tests b (place_has_form g k i (form_of f.value)) (if nat_lt i inputs then false else nat_lt i s.latest)) e

    module _ (empty : is_some (get_or s.values.items i None) ≡ false) where
      pub field_form : place_has_form g k i (form_of f.value) ≡ false → Fault ≡ Some (fault.FieldForm n f.name)
      field_form e =
          tests ∙ ap₂ (λ a b. Tests a b (if nat_lt i inputs then false else nat_lt i s.latest)) empty e

      module _ (fits : place_has_form g k i (form_of f.value) ≡ true) where
        up_to_order : (b : Bool) → (if nat_lt i inputs then false else nat_lt i s.latest) ≡ b → Fault ≡ Tests false true b
        up_to_order b e =
            tests ∙ ap₂ (λ a b. Tests a b (if nat_lt i inputs then false else nat_lt i s.latest)) empty fits
            ∙ ap (Tests false true) e

        pub field_order : inputs ≤ i → i < s.latest → Fault ≡ Some (fault.FieldOrder n f.name)
        field_order from less =
            up_to_order true
            (ap (λ b. if b then false else nat_lt i s.latest) (above_false i inputs from) ∙ below_true i s.latest less)

        module _ (in_order : (i < inputs) ⊎ (s.latest ≤ i)) where
          pub field_right : Fault ≡ None
          field_right = up_to_order false (by_test (nat_lt i inputs) refl)
            where
              by_test : (b : Bool) → nat_lt i inputs ≡ b → (if b then false else nat_lt i s.latest) ≡ false
              by_test true e = refl
              by_test false e =
                  ⊎_elim (λ less. absurd (let z : ⊥ = cc (below_true i inputs less) in z))
                  (λ more. above_false i s.latest more) in_order

          pub latest_after : (c : ℕ)
              → list_any (is_of_later g k c) (map head_in (earlier ++ f ∷ []))
              ≡ nat_lt (inputs + c) (if nat_lt i inputs then s.latest else i)
          latest_after c =
              ap (list_any (is_of_later g k c)) (map-append head_in earlier (f ∷ []))
              ∙ list_any-append (is_of_later g k c) (map head_in earlier) (head_in f ∷ [])
              ∙ ⊎_elim
              (λ (a : InputAt g k i f.name).
              ap₂ (λ x o. x || (list_any (nat_lt c) (option_to_list (child_by o)) || false)) (placed.latest c) a.stands
              ∙ or_false (nat_lt (inputs + c) s.latest)
              ∙ ap (λ b. nat_lt (inputs + c) (if b then s.latest else i)) (sym (below_true i inputs a.below)))
              (λ (d : ChildAt g k i f.name).
              let from = d.from in
              ap₂ (λ x o. x || (list_any (nat_lt c) (option_to_list (child_by o)) || false)) (placed.latest c) d.stands
              ∙ late_step s.latest i inputs c
              (⊎_elim (λ less. absurd (let z : ⊥ = omega (arith, less, from) in z)) (λ more. more) in_order) from
              ∙ ap (λ b. nat_lt (inputs + c) (if b then s.latest else i)) (sym (above_false i inputs from)))
              (at_place g lawful k known f.name i here)

          pub values_after : set s.values.items i (Some (number_of f.value)) ≡ map (slot_of (earlier ++ f ∷ [])) (needed_names g k)
          values_after =
              ap (λ xs. set xs i (Some (number_of f.value))) placed.values
              ∙ slot_filled earlier f (needed_names g k) i (needed_differ g lawful k known) here.below here.is
              (sym slot_is ∙ is_empty (get_or s.values.items i None) empty)
