-- What is decided: of vertices, of some entry of a list, of the least number.
use Rattle.std.proofs.Common.{◌≡◌, ◌⊎◌, ℕ, zero, suc, ◌<◌, Bool, true, false, refl, sym, subst, inl, inr, ⊎_elim, arith, List, [], ◌∷◌, Contains}
use Rattle.std.proofs.lemmas.Bool.{cases_lt, cases_order}
use Rattle.ftl_model.specs.layout.AttributeGrammar.{Sort, inherited, input, local, synthesized}
use Rattle.ftl_model.proofs.lists.Elements.{here_in, in_cases, later_in, nothing_in}
use Rattle.ftl_order.proofs.automatic.Choices.{Decided}

pub decided_either : {P Q : Type 0} → Decided P → Decided Q → Decided (P ⊎ Q)
decided_either (inl p) q = inl (inl p)
decided_either (inr n) (inl q) = inl (inr q)
decided_either (inr n) (inr m) = inr (λ h. ⊎_elim n m h)

-- by what it comes to
pub decided_as : {P Q : Type 0} → (P → Q) → (Q → P) → Decided P → Decided Q
decided_as to from (inl p) = inl (to p)
decided_as to from (inr n) = inr (λ q. n (from q))

pub decided_below : (m n : ℕ) → Decided (m < n)
decided_below m n =
    ⊎_elim (λ less. inl less) (λ more. inr (λ less. let z : ⊥ = omega (arith, more, less) in z)) (cases_lt m n)

pub decided_equal : (m n : ℕ) → Decided (m ≡ n)
decided_equal m n =
    ⊎_elim (λ same. inl same)
    (⊎_elim (λ less. inr (λ same. let z : ⊥ = omega (arith, less, same) in z))
    (λ more. inr (λ same. let z : ⊥ = omega (arith, more, same) in z)))
    (cases_order m n)

pub decided_true : (b : Bool) → Decided (b ≡ true)
decided_true true = inl refl
decided_true false = inr (λ e. let z : ⊥ = grind (arith, e) in z)

pub decided_false : (b : Bool) → Decided (b ≡ false)
decided_false false = inl refl
decided_false true = inr (λ e. let z : ⊥ = grind (arith, e) in z)

pub decided_inherited : (sort : Sort) → Decided (sort ≡ inherited)
decided_inherited inherited = inl refl
decided_inherited input = inr (λ e. let z : ⊥ = grind (arith, e) in z)
decided_inherited synthesized = inr (λ e. let z : ⊥ = grind (arith, e) in z)
decided_inherited local = inr (λ e. let z : ⊥ = grind (arith, e) in z)

pub decided_synthesized : (sort : Sort) → Decided (sort ≡ synthesized)
decided_synthesized synthesized = inl refl
decided_synthesized input = inr (λ e. let z : ⊥ = grind (arith, e) in z)
decided_synthesized inherited = inr (λ e. let z : ⊥ = grind (arith, e) in z)
decided_synthesized local = inr (λ e. let z : ⊥ = grind (arith, e) in z)

pub decided_local : (sort : Sort) → Decided (sort ≡ local)
decided_local local = inl refl
decided_local input = inr (λ e. let z : ⊥ = grind (arith, e) in z)
decided_local inherited = inr (λ e. let z : ⊥ = grind (arith, e) in z)
decided_local synthesized = inr (λ e. let z : ⊥ = grind (arith, e) in z)

-- of some entry of a list
pub decided_some : {X : Type 0} (P : X → Type 0) → ((x : X) → Decided (P x)) → (xs : List X)
    → Decided ((x : X) × Contains xs x × P x)
decided_some P d [] = inr (λ h. nothing_in h.0 h.1)
decided_some P d (y ∷ ys) =
    ⊎_elim (λ first. inl (y, here_in y ys, first))
    (λ not.
    ⊎_elim (λ rest. inl (rest.0, later_in y rest.0 ys rest.1, rest.2))
    (λ none. inr (λ h.
    ⊎_elim (λ same. not (subst P (sym same) h.2)) (λ later. none (h.0, later, h.2)) (in_cases y h.0 ys h.1)))
    (decided_some P d ys))
    (d y)

-- that a list has this number
pub decided_in : (xs : List ℕ) (a : ℕ) → Decided (Contains xs a)
decided_in xs a =
    decided_as (λ h. subst (Contains xs) h.2 h.1) (λ h. (a, h, refl))
    (decided_some (λ x. x ≡ a) (λ x. decided_equal x a) xs)

-- ---- the least number

-- it holds of this number, and of none below
abbrev pub IsLeast : (ℕ → Type 0) → ℕ → Type 0
IsLeast P m = P m × ((j : ℕ) → j < m → P j → ⊥)

module _ (P : ℕ → Type 0) (decide : (n : ℕ) → Decided (P n)) where
  least_below : (n : ℕ) → ((m : ℕ) × IsLeast P m) ⊎ ((j : ℕ) → j < n → P j → ⊥)
  least_below zero = inr (λ j b p. let z : ⊥ = omega (arith, b) in z)
  least_below (suc n) =
      ⊎_elim (λ found. inl found)
      (λ none.
      ⊎_elim (λ p. inl (n, (p, none)))
      (λ not. inr (λ j b p.
      ⊎_elim (λ less. none j less p)
      (λ more. not (let same : j ≡ n = omega (arith, b, more) in subst P same p)) (cases_lt j n)))
      (decide n))
      (least_below n)

  pub least_of : (n : ℕ) → P n → (m : ℕ) × IsLeast P m
  least_of n p = ⊎_elim (λ found. found) (λ none. (n, (p, none))) (least_below n)
