-- Lists of numbers: at most one another, with the same entries, and how often an entry stands in one.
use Rattle.std.proofs.Common.{◌≡◌, ◌≢◌, ℕ, zero, suc, ◌+◌, ◌≤◌, ◌==◌, cond, refl, sym, ◌∙◌, ap, ap₂, subst}
use Rattle.std.proofs.Common.{⊎_elim, arith, eq-eqb, ne_eqb, List, [], ◌∷◌, count_by, Contains}
use Rattle.std.proofs.lemmas.List.Sums.{sum_by-cons}
use Rattle.ftl_model.specs.lists.Lists.{AreDistinct, NoneFalls}
use Rattle.ftl_model.proofs.lists.Elements.{here_in, in_cases, later_in, nothing_in}
use Rattle.ftl_model.proofs.lists.Listed.{counted_in}
use Rattle.ftl_model.proofs.lists.Rising.{before_once}
use Rattle.ftl_order.specs.automatic.Fitting.{HasAll, IsAtMost}

-- of two lists that are each at most the other
pub at_most_both : (xs ys : List ℕ) → IsAtMost xs ys → IsAtMost ys xs → xs ≡ ys
at_most_both xs ys a b =
    ⊎_elim (λ same. same) (λ less. ⊎_elim (λ same. sym same) (λ more. absurd (before_once xs ys less more)) b) a

-- numbers in their order, each once
pub record Ascends (xs : List ℕ) : Type 0 where
  pub distinct : AreDistinct xs
  pub ascending : NoneFalls (λ a. a) xs

pub tail_has : (x : ℕ) (xs ys : List ℕ) → (Contains ys x → ⊥) → HasAll (x ∷ xs) (x ∷ ys) → HasAll xs ys
tail_has x xs ys new h a in_a =
    ⊎_elim (λ same. absurd (new (subst (Contains ys) (sym same) in_a))) (λ later. later)
    (in_cases x a xs (h a (later_in x a ys in_a)))

first_least : (x y : ℕ) (xs : List ℕ) → NoneFalls (λ a. a) (x ∷ xs) → Contains (x ∷ xs) y → x ≤ y
first_least x y xs r h = ⊎_elim (λ same. omega (arith, same)) (λ later. r.0 y later) (in_cases x y xs h)

-- two that have the same numbers are the same
pub same_numbers : (xs ys : List ℕ) → Ascends xs → Ascends ys → HasAll xs ys → HasAll ys xs → xs ≡ ys
same_numbers [] [] f s h k = refl
same_numbers [] (y ∷ ys) f s h k = absurd (nothing_in y (h y (here_in y ys)))
same_numbers (x ∷ xs) [] f s h k = absurd (nothing_in x (k x (here_in x xs)))
same_numbers (x ∷ xs) (y ∷ ys) f s h k =
    let up = first_least x y xs f.ascending (h y (here_in y ys)) in
    let down = first_least y x ys s.ascending (k x (here_in x xs)) in
    let same : x ≡ y = omega (arith, up, down) in
    ap₂ (λ a b. a ∷ b) same
    (same_numbers xs ys (record { distinct = f.distinct.1; ascending = f.ascending.1 })
    (record { distinct = s.distinct.1; ascending = s.ascending.1 })
    (tail_has x xs ys (λ there. s.distinct.0 (subst (Contains ys) same there))
    (subst (λ z. HasAll (x ∷ xs) (z ∷ ys)) (sym same) h))
    (tail_has y ys xs (λ there. f.distinct.0 (subst (Contains xs) (sym same) there))
    (subst (λ z. HasAll (y ∷ ys) (z ∷ xs)) same k)))

-- ---- how often an entry stands

count_first : (x : ℕ) (xs : List ℕ) → count_by (λ b. b == x) (x ∷ xs) ≡ 1 + count_by (λ b. b == x) xs
count_first x xs =
    sum_by-cons (λ b. cond (b == x) 1 0) x xs
    ∙ ap (λ t. cond t 1 0 + count_by (λ b. b == x) xs) (eq-eqb x x refl)

count_later : (x a : ℕ) (xs : List ℕ) → x ≢ a → count_by (λ b. b == a) (x ∷ xs) ≡ count_by (λ b. b == a) xs
count_later x a xs other =
    let step = sum_by-cons (λ b. cond (b == a) 1 0) x xs
    ∙ ap (λ t. cond t 1 0 + count_by (λ b. b == a) xs) (ne_eqb x a other) in
    omega (arith, step)

count_none : (xs : List ℕ) (a : ℕ) → (Contains xs a → ⊥) → count_by (λ b. b == a) xs ≡ 0
count_none xs a out = by (count_by (λ b. b == a) xs) refl
  where
    by : (n : ℕ) → count_by (λ b. b == a) xs ≡ n → n ≡ 0
    by zero e = refl
    by (suc n) e = absurd (out (counted_in xs a (omega (arith, e))))

-- in a list without repetition once
pub count_once : (xs : List ℕ) (a : ℕ) → AreDistinct xs → Contains xs a → count_by (λ b. b == a) xs ≡ 1
count_once [] a d h = absurd (nothing_in a h)
count_once (x ∷ xs) a d h =
    ⊎_elim
    (λ same. subst (λ b. count_by (λ c. c == b) (x ∷ xs) ≡ 1) same
    (let f = count_first x xs in let n = count_none xs x d.0 in omega (arith, f, n)))
    (λ later.
    count_later x a xs (λ same. d.0 (subst (Contains xs) (sym same) later)) ∙ count_once xs a d.1 later)
    (in_cases x a xs h)
