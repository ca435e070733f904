-- The places of the attributes of the grammar of notes.
use Rattle.std.proofs.Common.{◌≡◌, ℕ, zero, suc, ◌<◌, List, [], ◌∷◌, slice_index_or, refl, subst, arith, Contains, ⊎_elim}
use Rattle.ftl_model.proofs.lists.Elements.{in_cases, nothing_in}
use Rattle.ftl_model.specs.lists.Lists.{place_in}
use Rattle.ftl_model.specs.layout.AttributeGrammar.{attributes_of}
use Rattle.ftl_model.specs.layout.Notes.{notes}
use Rattle.ftl_tree.specs.rows.ClassRows.{AreAttributePlaces}
use Rattle.ftl_step_value.specs.neighbours.Worked.{notes_places}

module _ (P : ℕ → Type 0) where
  -- it holds of each number in a list
  abbrev Each : List ℕ → Type 0
  Each [] = Unit {0}
  Each (x ∷ xs) = P x × Each xs

  each_in : (xs : List ℕ) → Each xs → (a : ℕ) → Contains xs a → P a
  each_in [] all a among = absurd (nothing_in a among)
  each_in (x ∷ xs) all a among =
      ⊎_elim (λ same. subst P same all.0) (each_in xs all.1 a) (in_cases x a xs among)

-- the attribute has its place in this class
abbrev HasPlace : (class a : ℕ) → Type 0
HasPlace class a = slice_index_or notes_places a 0 ≡ place_in (attributes_of notes class) a

of_class : (class a : ℕ) → class < 3 → Contains (attributes_of notes class) a → HasPlace class a
of_class zero a known = each_in (HasPlace 0) (attributes_of notes 0) (refl, (refl, tt)) a
of_class (suc zero) a known =
    each_in (HasPlace 1) (attributes_of notes 1) (refl, (refl, (refl, (refl, tt)))) a
of_class (suc (suc zero)) a known =
    each_in (HasPlace 2) (attributes_of notes 2) (refl, (refl, (refl, (refl, tt)))) a
of_class (suc (suc (suc k))) a known = absurd (let z : ⊥ = omega (arith, known) in z)

pub notes_places_are : AreAttributePlaces notes notes_places
notes_places_are = record { length_is = refl; each = of_class }
