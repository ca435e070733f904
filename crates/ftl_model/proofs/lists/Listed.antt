-- Numbers that a list has, by test and by count.
use Rattle.std.proofs.Common.{◌≡◌, ℕ, ◌+◌, ◌<◌, ◌==◌, true, false, cond, if◌then◌else◌, refl, sym, subst, ⊎_elim, arith, eqb-true, eq-eqb, List, [], ◌∷◌, count_by, Contains}
use Rattle.std.proofs.lemmas.List.Sums.{sum_by-cons}
use Rattle.ftl_model.specs.lists.Lists.{is_listed}
use Rattle.ftl_model.proofs.lists.Elements.{nothing_in, here_in, later_in, in_cases}

-- what is counted is there
pub counted_in : (xs : List ℕ) (a : ℕ) → 0 < count_by (λ b. b == a) xs → Contains xs a
counted_in [] a h = absurd (let z : ⊥ = omega (arith, h) in z)
counted_in (x ∷ xs) a h =
    elim (x == a) as (λ b. (x == a ≡ b) → 0 < cond b 1 0 + count_by (λ b. b == a) xs → Contains (x ∷ xs) a) [
      | true ↦ λ e h. subst (Contains (x ∷ xs)) (eqb-true x a e) (here_in x xs)
      | false ↦ λ e h. later_in x a xs (counted_in xs a (omega (arith, h)))
    ]
    refl
    (let z = sum_by-cons (λ b. cond (b == a) 1 0) x xs in subst (λ n. 0 < n) z h)

pub listed : (xs : List ℕ) (a : ℕ) → Contains xs a → is_listed xs a ≡ true
listed [] a h = absurd (nothing_in a h)
listed (x ∷ xs) a h =
    elim (a == x) as (λ b. (a == x ≡ b) → (if b then true else is_listed xs a) ≡ true) [
      | true ↦ λ e. refl
      | false ↦ λ e.
          ⊎_elim (λ same. absurd (let f = eq-eqb a x (sym same) in let z : ⊥ = grind arith in z))
          (λ later. listed xs a later)
          (in_cases x a xs h)
    ]
    refl

pub is_there : (xs : List ℕ) (a : ℕ) → is_listed xs a ≡ true → Contains xs a
is_there [] a h = absurd (let z : ⊥ = grind arith in z)
is_there (x ∷ xs) a h =
    elim (a == x) as (λ b. (a == x ≡ b) → (if b then true else is_listed xs a) ≡ true → Contains (x ∷ xs) a) [
      | true ↦ λ e h. subst (λ z. Contains (x ∷ xs) z) (sym (eqb-true a x e)) (here_in x xs)
      | false ↦ λ e h. later_in x a xs (is_there xs a h)
    ]
    refl h
