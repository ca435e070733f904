-- Numbers in the turn of a list, by their places in it.
use Rattle.std.proofs.Common.{◌≡◌, ◌≢◌, ◌⊎◌, ℕ, suc, ◌+◌, ◌<◌, ◌==◌, Bool, true, false, cond, if◌then◌else◌, refl, sym}
use Rattle.std.proofs.Common.{◌∙◌, ap, subst, inl, inr, ⊎_elim, arith, eqb-true, eq-eqb, ne_eqb, List, [], ◌∷◌, ◌++◌}
use Rattle.std.proofs.Common.{length, get_or, filter, Contains}
use Rattle.std.proofs.lemmas.Bool.{cases_order}
use Rattle.ftl_model.specs.lists.Lists.{AreDistinct, is_listed, place_in}
use Rattle.ftl_model.proofs.lists.Elements.{here_in, in_cases, in_filter, later_in, nothing_in}
use Rattle.ftl_model.proofs.lists.Listed.{is_there, listed}
use Rattle.ftl_model.proofs.lists.Places.{place_is, place_within}
use Rattle.ftl_model.proofs.lists.Rising.{Rising, rising_at, rising_more}

-- by the first entry
pub place_first : (x : ℕ) (xs : List ℕ) → place_in (x ∷ xs) x ≡ 0
place_first x xs = ap (λ b. if b then 0 else suc (place_in xs x)) (eq-eqb x x refl)

pub place_later : (x a : ℕ) (xs : List ℕ) → a ≢ x → place_in (x ∷ xs) a ≡ suc (place_in xs a)
place_later x a xs other = ap (λ b. if b then 0 else suc (place_in xs a)) (ne_eqb a x other)

pub same_place : (xs : List ℕ) (a b : ℕ) → Contains xs a → Contains xs b → place_in xs a ≡ place_in xs b → a ≡ b
same_place xs a b in_a in_b e = sym (place_is xs a 0 in_a) ∙ ap (λ n. get_or xs n 0) e ∙ place_is xs b 0 in_b

-- two numbers are the same or not
pub cases_same : (a b : ℕ) → (a ≡ b) ⊎ (a ≢ b)
cases_same a b = by (a == b) refl
  where
    by : (t : Bool) → (a == b) ≡ t → (a ≡ b) ⊎ (a ≢ b)
    by true e = inl (eqb-true a b e)
    by false e = inr (λ same. let f = eq-eqb a b same in let z : ⊥ = grind (arith, e, f) in z)

-- a number is in a list or not
pub cases_in : (xs : List ℕ) (a : ℕ) → Contains xs a ⊎ (Contains xs a → ⊥)
cases_in xs a = by (is_listed xs a) refl
  where
    by : (t : Bool) → is_listed xs a ≡ t → Contains xs a ⊎ (Contains xs a → ⊥)
    by true e = inl (is_there xs a e)
    by false e = inr (λ h. let f = listed xs a h in let z : ⊥ = grind (arith, e, f) in z)

-- a list rises by places in it
pub places_rise : (xs : List ℕ) → AreDistinct xs → Rising (λ a b. place_in xs a < place_in xs b) xs
places_rise [] d = tt
places_rise (x ∷ xs) d = (
  (λ b h.
      let first = place_first x xs in
      let later = place_later x b xs (other b h) in
      omega (arith, first, later)),
  rising_more (λ a b. place_in xs a < place_in xs b) (λ a b. place_in (x ∷ xs) a < place_in (x ∷ xs) b) xs
      (λ a b in_a in_b less.
      let p = place_later x a xs (other a in_a) in
      let q = place_later x b xs (other b in_b) in
      omega (arith, p, q, less))
      (places_rise xs d.1),
)
  where
    other : (b : ℕ) → Contains xs b → b ≢ x
    other b h same = d.0 (subst (Contains xs) same h)

pub rising-filter : {X : Type 0} (R : X → X → Type 0) (p : X → Bool) (xs : List X) → Rising R xs → Rising R (filter p xs)
rising-filter R p [] r = tt
rising-filter R p (x ∷ xs) r =
    elim (p x) as (λ b. Rising R (cond b (x ∷ filter p xs) (filter p xs))) [
      | true ↦ ((λ y h. r.0 y (in_filter p xs y h).0), rising-filter R p xs r.1)
      | false ↦ rising-filter R p xs r.1
    ]

-- in a list that rises by a number, what has a smaller one stands earlier
pub rising_place : (f : ℕ → ℕ) (xs : List ℕ) → Rising (λ a b. f a < f b) xs → (a b : ℕ) → Contains xs a → Contains xs b
    → f a < f b → place_in xs a < place_in xs b
rising_place f xs r a b in_a in_b less =
    ⊎_elim (λ same. absurd (let e = ap f (same_place xs a b in_a in_b same) in let z : ⊥ = omega (arith, e, less) in z))
    (⊎_elim (λ early. early)
    (λ late.
    let up = rising_at (λ x y. f x < f y) xs r (place_in xs b) (place_in xs a) 0 late (place_within xs a in_a) in
    let at_b = ap f (place_is xs b 0 in_b) in
    let at_a = ap f (place_is xs a 0 in_a) in
    absurd (let z : ⊥ = omega (arith, up, at_a, at_b, less) in z)))
    (cases_order (place_in xs a) (place_in xs b))

-- places in two lists, one behind the other
pub place_left : (xs ys : List ℕ) (a : ℕ) → Contains xs a → place_in (xs ++ ys) a ≡ place_in xs a
place_left [] ys a h = absurd (nothing_in a h)
place_left (x ∷ xs) ys a h =
    ⊎_elim
    (λ same. subst (λ b. place_in (x ∷ (xs ++ ys)) b ≡ place_in (x ∷ xs) b) same
    (place_first x (xs ++ ys) ∙ sym (place_first x xs)))
    (λ other. place_later x a (xs ++ ys) (λ e. other (sym e))
    ∙ ap suc (place_left xs ys a (⊎_elim (λ e. absurd (other e)) (λ later. later) (in_cases x a xs h)))
    ∙ sym (place_later x a xs (λ e. other (sym e))))
    (cases_same x a)

pub place_right : (xs ys : List ℕ) (a : ℕ) → (Contains xs a → ⊥) → place_in (xs ++ ys) a ≡ length xs + place_in ys a
place_right [] ys a h = omega arith
place_right (x ∷ xs) ys a h =
    let rest = place_right xs ys a (λ there. h (later_in x a xs there)) in
    let step = place_later x a (xs ++ ys) (λ e. h (subst (Contains (x ∷ xs)) (sym e) (here_in x xs))) in
    omega (arith, step, rest)
