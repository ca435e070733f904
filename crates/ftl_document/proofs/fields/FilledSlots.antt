-- What fields put into the slots of a node.
use Rattle.std.proofs.Common.{◌≡◌, ℕ, zero, suc, ◌<◌, Bool, true, false, ◌||◌, if◌then◌else◌, refl, sym, ◌∙◌, ap, ap₂, subst, arith, List, [], ◌∷◌, ◌++◌, length, get_or, set, map, replicate, Contains, Some, None}
use Rattle.std.specs.Option.{is_some}
use Rattle.std.specs.Str.{bytes_eq}
use Rattle.std.proofs.lemmas.List.Elements.{Contains-get_or}
use Rattle.std.proofs.lemmas.Option.{none-some}
use Rattle.ftl_model.specs.lists.Lists.{AreDistinct}
use Rattle.ftl_model.proofs.lists.Elements.{here_in, later_in}
use Rattle.ftl_document.specs.syntax.Written.{NameText}
use Rattle.ftl_meaning.specs.faults.Numbering.{is_among}
use Rattle.ftl_document.specs.faults.FirstFault.{names_of}
use Rattle.ftl_meaning.proofs.names.Names.{name_itself, names_differ}
use Rattle.ftl_document.specs.fields.OwnFields.{head_in, number_of, slot_of}
use Rattle.ftl_document.specs.declared.fields.own_field.OwnField.{OwnField}

-- a slot is full where a field has the name
pub slot_among : (fields : List OwnField) (name : NameText)
    → is_some (slot_of fields name) ≡ is_among (names_of (map head_in fields)) name
slot_among [] name = refl
slot_among (f ∷ fields) name = by_test (bytes_eq name f.name) (slot_among fields name)
  where
    by_test : (b : Bool) → is_some (slot_of fields name) ≡ is_among (names_of (map head_in fields)) name
        → is_some (if b then Some (number_of f.value) else slot_of fields name)
        ≡ (b || is_among (names_of (map head_in fields)) name)
    by_test true e = refl
    by_test false e = e

-- a field more changes no slot of another name
pub slot_other : (fields : List OwnField) (f : OwnField) (name : NameText) → bytes_eq name f.name ≡ false
    → slot_of (fields ++ f ∷ []) name ≡ slot_of fields name
slot_other [] f name e = ap (λ b. if b then Some (number_of f.value) else None) e
slot_other (x ∷ fields) f name e =
    ap (λ o. if bytes_eq name x.name then Some (number_of x.value) else o) (slot_other fields f name e)

-- and fills its own, where that is empty
pub slot_new : (fields : List OwnField) (f : OwnField) → slot_of fields f.name ≡ None
    → slot_of (fields ++ f ∷ []) f.name ≡ Some (number_of f.value)
slot_new [] f e = ap (λ b. if b then Some (number_of f.value) else None) (name_itself f.name)
slot_new (x ∷ fields) f e = by_test (bytes_eq f.name x.name) (slot_new fields f) e
  where
    by_test : (b : Bool) → (slot_of fields f.name ≡ None → slot_of (fields ++ f ∷ []) f.name ≡ Some (number_of f.value))
        → (if b then Some (number_of x.value) else slot_of fields f.name) ≡ None
        → (if b then Some (number_of x.value) else slot_of (fields ++ f ∷ []) f.name) ≡ Some (number_of f.value)
    by_test true rest e = absurd (none-some (number_of x.value) (sym e))
    by_test false rest e = rest e

-- no slot is full at first
pub slots_empty : (names : List NameText) → replicate (length names) None ≡ map (slot_of []) names
slots_empty [] = refl
slots_empty (x ∷ names) = ap (λ xs. None ∷ xs) (slots_empty names)

module _ (fields : List OwnField) (f : OwnField) where
  others : (names : List NameText) → (Contains names f.name → ⊥)
      → map (slot_of fields) names ≡ map (slot_of (fields ++ f ∷ [])) names
  others [] apart = refl
  others (x ∷ names) apart =
      ap₂ (λ o xs. o ∷ xs)
      (sym
      (slot_other fields f x
      (names_differ x f.name (λ same. apart (subst (Contains (x ∷ names)) same (here_in x names))))))
      (others names (λ there. apart (later_in x f.name names there)))

  -- the field's slot is filled
  pub slot_filled : (names : List NameText) (i : ℕ) → AreDistinct names → i < length names → get_or names i [] ≡ f.name
      → slot_of fields f.name ≡ None
      → set (map (slot_of fields) names) i (Some (number_of f.value)) ≡ map (slot_of (fields ++ f ∷ [])) names
  slot_filled [] i differ below is none = absurd (let z : ⊥ = omega (arith, below) in z)
  slot_filled (x ∷ names) zero differ below is none =
      ap₂ (λ o xs. o ∷ xs)
      (sym (ap (slot_of (fields ++ f ∷ [])) is ∙ slot_new fields f none))
      (others names (subst (λ y. Contains names y → ⊥) is differ.0))
  slot_filled (x ∷ names) (suc i) differ below is none =
      let within : i < length names = omega (arith, below) in
      ap₂ (λ o xs. o ∷ xs)
      (sym
      (slot_other fields f x
      (names_differ x f.name
      (λ same. differ.0 (subst (Contains names) (is ∙ sym same) (Contains-get_or names i [] within))))))
      (slot_filled names i differ.1 within is none)
