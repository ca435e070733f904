-- The fields of a node one after another, and the inputs and children that have none.
use Rattle.std.proofs.Common.{◌≡◌, ℕ, zero, suc, ◌+◌, ◌<◌, ◌≤◌, Bool, true, false, not, nat_lt, cond, refl, sym, ◌∙◌, ap, ap₂, subst, arith, List, [], ◌∷◌, ◌++◌, length, get_or, take, drop, map, replicate, Contains, Option, Some, None, add-one}
use Rattle.std.specs.List.{find, position}
use Rattle.std.specs.Option.{is_none, is_some, option_map}
use Rattle.std.proofs.Math.Seq.{drop-cons}
use Rattle.std.proofs.lemmas.List.{drop_all, get_or-map, length-map, map-append, take_more}
use Rattle.std.proofs.lemmas.List.Quantifiers.{position-Some}
use Rattle.ftl_model.proofs.lists.Elements.{here_in, later_in}
use Rattle.ftl_model.proofs.lists.Rising.{map_has}
use Rattle.ftl_order.proofs.dependencies.Places.{none_passes}
use Rattle.std.proofs.lemmas.Bool.Decides.{nat_tests}
use Rattle.ftl_grammar.specs.declared.syntax.rules.Grammar.{Grammar}
use Rattle.ftl_document.specs.syntax.Written.{NameText}
use Rattle.ftl_meaning.specs.faults.Numbering.{is_among}
use Rattle.ftl_document.specs.faults.FirstFault.{field_fault, field_faults, first_there, input_names, missing_fault, names_of, needed_names}
use Rattle.ftl_document.specs.declared.faults.fault.DocFault.{DocFault}
use Rattle.ftl_document.specs.declared.faults.fault.DocFault.TheVariants as fault
use Rattle.ftl_document.specs.fields.OwnFields.{head_in, slot_of}
use Rattle.ftl_document.specs.fields.Placed.{ArePlaced}
use Rattle.ftl_document.specs.declared.fields.own_field.OwnField.{OwnField}
use Rattle.ftl_document.specs.declared.fields.node_fields.Slots.{Slots}
use Rattle.ftl_document.proofs.fields.FilledSlots.{slot_among, slots_empty}

above_false : (a b : ℕ) → b ≤ a → nat_lt a b ≡ false
above_false a b h = grind (arith, nat_tests)

-- before any field came
pub placed_none : (g : Grammar) (k count : ℕ) (s : Slots) → s.latest ≡ 0 → count ≡ length (needed_names g k)
    → s.values.items ≡ replicate count None → ArePlaced g k [] s
placed_none g k count s latest long values =
    record {
      values = values ∙ ap (λ n. replicate n None) long ∙ slots_empty (needed_names g k);
      latest = λ c. sym (ap (nat_lt (length (input_names g k) + c)) latest ∙ above_false (length (input_names g k) + c) 0 (omega arith));
    }

module _ (g : Grammar) (n k : ℕ) (xs : List OwnField) where
  abbrev Left : ℕ → Option DocFault
  Left m = first_there (field_faults g n k (map head_in (take m xs)) (map head_in (drop m xs)))

  -- where no field is left
  pub fields_end : (i : ℕ) → length xs ≤ i → Left i ≡ None
  fields_end i past =
      ap (λ ys. first_there (field_faults g n k (map head_in (take i xs)) (map head_in ys))) (drop_all i xs past)

  module _ (i : ℕ) (x : OwnField) (within : i < length xs) (is : x ≡ get_or xs i x) where
    abbrev Here : Option DocFault
    Here = field_fault g n k (map head_in (take i xs)) (head_in x)

    taken : take (i + 1) xs ≡ take i xs ++ x ∷ []
    taken = take_more xs i x within ∙ ap (λ y. take i xs ++ y ∷ []) (sym is)

    heads_taken : map head_in (take (i + 1) xs) ≡ map head_in (take i xs) ++ head_in x ∷ []
    heads_taken = ap (map head_in) taken ∙ map-append head_in (take i xs) (x ∷ [])

    dropped : map head_in (drop i xs) ≡ head_in x ∷ map head_in (drop (i + 1) xs)
    dropped =
        ap (map head_in) (drop-cons xs i x within)
        ∙ ap₂ (λ y m. head_in y ∷ map head_in (drop m xs)) (sym is) (sym (add-one i))

    opened : Left i ≡ first_there (Here ∷ field_faults g n k (map head_in (take i xs) ++ head_in x ∷ []) (map head_in (drop (i + 1) xs)))
    opened = ap (λ hs. first_there (field_faults g n k (map head_in (take i xs)) hs)) dropped

    pub fields_step : Here ≡ None → Left i ≡ Left (i + 1)
    fields_step none =
        opened
        ∙ ap (λ o. first_there (o ∷ field_faults g n k (map head_in (take i xs) ++ head_in x ∷ []) (map head_in (drop (i + 1) xs)))) none
        ∙ ap (λ hs. first_there (field_faults g n k hs (map head_in (drop (i + 1) xs)))) (sym heads_taken)

    pub fields_fault : (y : DocFault) → Here ≡ Some y → Left i ≡ Some y
    fields_fault y found =
        opened
        ∙ ap (λ o. first_there (o ∷ field_faults g n k (map head_in (take i xs) ++ head_in x ∷ []) (map head_in (drop (i + 1) xs)))) found

    pub placed_more : (s : Slots) → ArePlaced g k (take i xs ++ x ∷ []) s → ArePlaced g k (take (i + 1) xs) s
    placed_more s h = subst (λ ys. ArePlaced g k ys s) (sym taken) h

-- ---- what no field fills

first_at : (p : NameText → Bool) (names : List NameText) (i : ℕ) → i < length names → p (get_or names i []) ≡ true
    → ((m : ℕ) → m < i → p (get_or names m []) ≡ false) → find p names ≡ Some (get_or names i [])
first_at p [] i below passes first = absurd (let z : ⊥ = omega (arith, below) in z)
first_at p (x ∷ names) zero below passes first = ap (λ b. cond b (Some x) (find p names)) passes
first_at p (x ∷ names) (suc i) below passes first =
    ap (λ b. cond b (Some x) (find p names)) (first 0 (omega arith))
    ∙ first_at p names i (omega (arith, below)) passes (λ m less. first (suc m) (omega (arith, less)))

finds_none : (p : NameText → Bool) (names : List NameText) → ((x : NameText) → Contains names x → p x ≡ false)
    → find p names ≡ None
finds_none p [] fails = refl
finds_none p (x ∷ names) fails =
    ap (λ b. cond b (Some x) (find p names)) (fails x (here_in x names))
    ∙ finds_none p names (λ y there. fails y (later_in x y names there))

empty_or_full : {X : Type 0} (o : Option X) → not (is_some o) ≡ is_none o
empty_or_full None = refl
empty_or_full (Some x) = refl

module _ (fields : List OwnField) (names : List NameText) where
  abbrev IsMissing : NameText → Bool
  IsMissing name = not (is_among (names_of (map head_in fields)) name)

  missing_slot : (name : NameText) → IsMissing name ≡ is_none (slot_of fields name)
  missing_slot name = ap not (sym (slot_among fields name)) ∙ empty_or_full (slot_of fields name)

  -- the first empty slot is that of the first name without a field
  missing_at : (i : ℕ) → position is_none (map (slot_of fields) names) ≡ Some i
      → find IsMissing names ≡ Some (get_or names i [])
  missing_at i found =
      let at = position-Some is_none (map (slot_of fields) names) i None found in
      let below = at.0 in
      let long = length-map names (slot_of fields) in
      let within : i < length names = omega (arith, below, long) in
      first_at IsMissing names i within
      (missing_slot (get_or names i []) ∙ ap is_none (sym (get_or-map (slot_of fields) names i [] None within)) ∙ at.1)
      (λ m less.
      let still : m < length names = omega (arith, less, within) in
      missing_slot (get_or names m []) ∙ ap is_none (sym (get_or-map (slot_of fields) names m [] None still)) ∙ at.2 m less)

  none_missing : position is_none (map (slot_of fields) names) ≡ None → find IsMissing names ≡ None
  none_missing none =
      finds_none IsMissing names
      (λ x there. by_test x there (is_none (slot_of fields x)) refl)
    where
      by_test : (x : NameText) → Contains names x → (b : Bool) → is_none (slot_of fields x) ≡ b → IsMissing x ≡ false
      by_test x there false e = missing_slot x ∙ e
      by_test x there true e =
          absurd (none_passes is_none (map (slot_of fields) names) none (slot_of fields x) (map_has (slot_of fields) names x there) e)

module _ (g : Grammar) (n k : ℕ) (fields : List OwnField) where
  pub missing_found : (i : ℕ) → position is_none (map (slot_of fields) (needed_names g k)) ≡ Some i
      → missing_fault g n k (map head_in fields) ≡ Some (fault.FieldMissing n (get_or (needed_names g k) i []))
  missing_found i found = ap (option_map (fault.FieldMissing n)) (missing_at fields (needed_names g k) i found)

  pub missing_none : position is_none (map (slot_of fields) (needed_names g k)) ≡ None
      → missing_fault g n k (map head_in fields) ≡ None
  missing_none none = ap (option_map (fault.FieldMissing n)) (none_missing fields (needed_names g k) none)
