-- Numbers below a bound that differ are no more than the bound.
use Rattle.std.proofs.Common.{◌≡◌, ℕ, zero, suc, ◌<◌, ◌≤◌, true, false, cond, ltb, ltb-true, ltb-false, refl, sym, ◌∙◌, ap, subst, arith, List, [], ◌∷◌, filter, get_or, length, map, Contains}
use Rattle.std.proofs.lemmas.List.Elements.{Contains-get_or}
use Rattle.ftl_model.specs.lists.Lists.{AreDistinct}
use Rattle.ftl_model.proofs.lists.Elements.{distinct-filter, here_in, in_filter, later_in}
use Rattle.ftl_model.proofs.lists.Rising.{in_map}

-- one is left out at most
left_out : (m : ℕ) (xs : List ℕ) → AreDistinct xs → ((x : ℕ) → Contains xs x → x < suc m)
    → length xs ≤ suc (length (filter (λ x. ltb x m) xs))
left_out m [] once low = omega arith
left_out m (x ∷ xs) once low =
    elim (ltb x m) as
    (λ b. (ltb x m ≡ b) → suc (length xs) ≤ suc (length (cond b (x ∷ filter (λ x. ltb x m) xs)
    (filter (λ x. ltb x m) xs)))) [
      | true ↦ λ e. let i = left_out m xs once.1 (λ y h. low y (later_in x y xs h)) in omega (arith, i)
      | false ↦ λ e.
          let high = ltb-false x m e in
          let first = low x (here_in x xs) in
          let is : x ≡ m = omega (arith, high, first) in
          let all = all_pass xs (λ y h.
          let l = low y (later_in x y xs h) in
          let other : y ≡ m → ⊥ = (λ f. once.0 (subst (Contains xs) (f ∙ sym is) h)) in
          let z : y < m = below y l other in
          z) in
          omega (arith, all)
    ]
    refl
  where
    below : (y : ℕ) → y < suc m → (y ≡ m → ⊥) → y < m
    below y l other =
        elim (ltb y m) as (λ b. (ltb y m ≡ b) → y < m) [
          | true ↦ λ e. ltb-true y m e
          | false ↦ λ e.
              absurd (let h = ltb-false y m e in other (let z : y ≡ m = omega (arith, h, l) in z))
        ] refl

    all_pass : (ys : List ℕ) → ((y : ℕ) → Contains ys y → y < m) → length ys ≡ length (filter (λ x. ltb x m) ys)
    all_pass [] h = refl
    all_pass (y ∷ ys) h =
        elim (ltb y m) as
        (λ b. (ltb y m ≡ b) → suc (length ys) ≡ length (cond b (y ∷ filter (λ x. ltb x m) ys)
        (filter (λ x. ltb x m) ys))) [
          | true ↦ λ e. ap suc (all_pass ys (λ z there. h z (later_in y z ys there)))
          | false ↦ λ e.
              absurd (let high = ltb-false y m e in let low = h y (here_in y ys) in let z : ⊥ = omega (arith, high, low) in z)
        ] refl

pub fewer : (n : ℕ) (xs : List ℕ) → AreDistinct xs → ((x : ℕ) → Contains xs x → x < n) → length xs ≤ n
fewer zero [] once low = omega arith
fewer zero (x ∷ xs) once low = absurd (let l = low x (here_in x xs) in let z : ⊥ = omega (arith, l) in z)
fewer (suc m) xs once low =
    let one = left_out m xs once low in
    let rest = fewer m (filter (λ x. ltb x m) xs) (distinct-filter (λ x. ltb x m) xs once)
    (λ x h. ltb-true x m (in_filter (λ x. ltb x m) xs x h).1) in
    omega (arith, one, rest)

pub distinct_map_in : {X : Type 0} (h : X → ℕ) (xs : List X)
    → ((x z : X) → Contains xs x → Contains xs z → h x ≡ h z → x ≡ z) → AreDistinct xs → AreDistinct (map h xs)
distinct_map_in h [] only d = tt
distinct_map_in h (x ∷ xs) only d = (
  (λ again.
      let m = in_map h xs (h x) again in
      d.0
      (subst (Contains xs) (only m.from x (later_in x m.from xs m.there) (here_in x xs) m.is) m.there)),
  distinct_map_in h xs (λ y z hy hz e. only y z (later_in x y xs hy) (later_in x z xs hz) e) d.1,
)

-- among entries that differ each has one place
pub one_place : {X : Type 0} (xs : List X) (i j : ℕ) (d : X) → AreDistinct xs → i < length xs → j < length xs
    → get_or xs i d ≡ get_or xs j d → i ≡ j
one_place [] i j d once bi bj e = absurd (let z : ⊥ = omega (arith, bi) in z)
one_place (x ∷ xs) zero zero d once bi bj e = refl
one_place (x ∷ xs) zero (suc j) d once bi bj e =
    absurd (once.0 (subst (Contains xs) (sym e) (Contains-get_or xs j d (omega (arith, bj)))))
one_place (x ∷ xs) (suc i) zero d once bi bj e =
    absurd (once.0 (subst (Contains xs) e (Contains-get_or xs i d (omega (arith, bi)))))
one_place (x ∷ xs) (suc i) (suc j) d once bi bj e =
    ap suc (one_place xs i j d once.1 (omega (arith, bi)) (omega (arith, bj)) e)
