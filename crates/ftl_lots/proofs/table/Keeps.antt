-- Each step keeps the rule of the lots.
use Rattle.std.proofs.Common.{zero, suc, ◌≡◌, ◌≢◌, ℕ, ◌+◌, ◌<◌, List, [], ◌∷◌, map, replicate, get_or, set, sym, refl, ◌∙◌, ap, subst, arith, length, length-set, get_or-set_same, get_or-set_other}
use Rattle.std.proofs.lemmas.List.{get_or-replicate, length-replicate}
use mathlib.Core.Logic.{dite}
use mathlib.Core.Option.{Option, some, none}
use native.Mathlib.Decide.{ℕ_discrete}
use lib.ListN.{get_elem?}
use Rattle.atomic_table.specs.Table.{keeps, takes, gives, Allows, Arrives}
use Rattle.atomic_table.proofs.Lists.{set_here, set_else, at_map}
use Rattle.ftl_lots.specs.table.Lots.{AreBegunFrom, Wanted, lot_total, IsBegun, IsFilled, IsKept, Known, Has, TakeTold}
use Rattle.ftl_lots.specs.words.Parts.{Part}

-- a state becomes 1, and the slot of that lot may be out
out : (want : Wanted) (words : List ℕ) (homes after : List (Option Part)) (k : ℕ) → k < lot_total want
    → ((j : ℕ) → j ≢ k → get_elem? after j ≡ get_elem? homes j) → IsKept want words homes
    → IsKept want (set words k 1) after
out want words homes after k l same r =
    let one = get_or-set_same words k 1 0 (omega (arith, r.count)) in record {
      count = length-set words k 1 ∙ r.count;
      free = λ j b z. dite (ℕ_discrete j k)
          (λ e. absurd (omega (arith, one, subst (λ x. get_or (set words k 1) x 0 ≡ 0) e z)))
          (λ ne. let f = r.free j b (sym (get_or-set_other words k j 1 0 ne) ∙ z) in (f.0, same j ne ∙ f.1, f.2));
      full = λ j b z. dite (ℕ_discrete j k)
          (λ e. absurd (omega (arith, one, subst (λ x. get_or (set words k 1) x 0 ≡ 2) e z)))
          (λ ne. let f = r.full j b (sym (get_or-set_other words k j 1 0 ne) ∙ z) in (f.0, same j ne ∙ f.1, f.2));
    }

-- a lot can be taken at any time
pub take_arrives : (want : Wanted) (n k : ℕ) → k < lot_total want
    → Arrives (λ s. IsKept want s.words s.homes) n k (λ _. 1) (TakeTold want k)
take_arrives want n k l s r wide bound =
    dite (ℕ_discrete (get_or s.words k 0) 0)
    (λ z. let f = r.free k l z in (
      want,
      takes k f.0,
      f.1,
      out want s.words s.homes (set s.homes k none) k l (λ j ne. set_else s.homes k j none ne) r,
      ((λ _. (f.0, refl, f.2)), λ t. absurd (omega arith)),
    ))
    (λ nz. dite (ℕ_discrete (get_or s.words k 0) 2)
    (λ t. let f = r.full k l t in (
      want,
      takes k f.0,
      f.1,
      out want s.words s.homes (set s.homes k none) k l (λ j ne. set_else s.homes k j none ne) r,
      ((λ z. absurd (nz z)), λ _. (f.0, refl, f.2)),
    ))
    (λ nt. (
      want,
      keeps,
      tt,
      out want s.words s.homes s.homes k l (λ j ne. refl) r,
      ((λ z. absurd (nz z)), λ t. absurd (nt t)),
    )))

-- a state becomes 2, and the lot is at home
back : (want : Wanted) (words : List ℕ) (homes : List (Option Part)) (k : ℕ) (p : Part) → k < lot_total want
    → length homes ≡ lot_total want → IsFilled want k p → IsKept want words homes
    → IsKept want (set words k 2) (set homes k (some p))
back want words homes k p l wide full r =
    let two = get_or-set_same words k 2 0 (omega (arith, r.count)) in record {
      count = length-set words k 2 ∙ r.count;
      free = λ j b z. dite (ℕ_discrete j k)
          (λ e. absurd (omega (arith, two, subst (λ x. get_or (set words k 2) x 0 ≡ 0) e z)))
          (λ ne. let f = r.free j b (sym (get_or-set_other words k j 2 0 ne) ∙ z) in
          (f.0, set_else homes k j (some p) ne ∙ f.1, f.2));
      full = λ j b z. dite (ℕ_discrete j k)
          (λ e. (
            p,
            ap (λ x. get_elem? (set homes k (some p)) x) e ∙ set_here homes k (some p) (omega arith),
            subst (λ x. IsFilled want x p) (sym e) full,
          ))
          (λ ne. let f = r.full j b (sym (get_or-set_other words k j 2 0 ne) ∙ z) in
          (f.0, set_else homes k j (some p) ne ∙ f.1, f.2));
    }

-- a lot that is filled can be given back at any time
pub give_allows : (want : Wanted) (n id k : ℕ) (me : Known) → n ≡ lot_total want → k < lot_total want
    → Has k (IsFilled want k) me
    → Allows (λ s. IsKept want s.words s.homes) n id me k (λ _. 2) (λ _ _. Unit {0})
give_allows want n id k me slots l h =
    let v = me.0 in
    subst (λ (x : Known). Allows (λ s. IsKept want s.words s.homes) n id x k (λ _. 2) (λ _ _. Unit {0}))
    (sym (ap (λ c. (v, c)) h.1))
    (λ s r wide at bound. (v, gives, tt, back want s.words s.homes k h.0 l (wide ∙ slots) h.2 r, tt))

-- what stands at a place
there : {A : Type 0} → (xs : List A) → (k : ℕ) → k < length xs
    → (x : A) × (get_elem? xs k ≡ some x) × (get_or xs k x ≡ x)
there [] k l = absurd (omega (arith, l))
there (x ∷ xs) zero l = (x, refl, refl)
there (x ∷ xs) (suc k) l = there xs k (omega (arith, l))

zero_plus : (k : ℕ) → 0 + k ≡ k
zero_plus k = omega arith

-- before any lot is taken
pub opens : (want : Wanted) (n : ℕ) (words : List ℕ) (parts : List Part) → words ≡ replicate n 0 → n ≡ length parts
    → length parts ≡ lot_total want → AreBegunFrom want 0 parts → IsKept want words (map some parts)
opens want n words parts z e count are_begun = record {
  count = ap length z ∙ length-replicate n 0 ∙ e ∙ count;
  free = λ k l _. let f = there parts k (omega (arith, l, count)) in (
    f.0,
    at_map some parts k f.0 f.1,
    subst (IsBegun want k) f.2
        (subst (λ i. IsBegun want i (get_or parts k f.0)) (zero_plus k)
        (are_begun k f.0 (omega (arith, l, count)))),
  );
  full = λ k l t.
      let here : get_or words k 0 ≡ 0 =
      ap (λ w. get_or w k 0) z ∙ get_or-replicate n k 0 0 (omega (arith, l, e, count)) in
      absurd (omega (arith, t, here));
}
