-- A best one of finitely many, and the lists of numbers below a bound.
use Rattle.std.proofs.Common.{◌≡◌, ◌≢◌, ◌⊎◌, ℕ, zero, suc, ◌<◌, ◌≤◌, ◌==◌, Bool, true, false, if◌then◌else◌, refl, sym, ◌∙◌, ap}
use Rattle.std.proofs.Common.{subst, inl, inr, ⊎_elim, arith, eqb-true, eq-eqb, List, [], ◌∷◌, length, flat_map, map, Contains}
use Rattle.std.specs.List.{range_with_len}
use Rattle.std.proofs.lemmas.Bool.{cases_order}
use Rattle.ftl_model.specs.lists.Lists.{AreDistinct, Before}
use Rattle.ftl_model.proofs.lists.Elements.{flat_map_has, here_in, in_cases, later_in, nothing_in, range_has}
use Rattle.ftl_model.proofs.lists.Rising.{map_has}
use Rattle.ftl_order.specs.automatic.Fitting.{HasAll, IsAtMost}

-- it holds, or it does not
abbrev pub Decided : Type 0 → Type 0
Decided P = P ⊎ (P → ⊥)

pub decided_both : {P Q : Type 0} → Decided P → Decided Q → Decided (P × Q)
decided_both (inl p) (inl q) = inl (p, q)
decided_both (inl p) (inr n) = inr (λ h. n h.1)
decided_both (inr n) q = inr (λ h. n h.0)

pub decided_not : {P : Type 0} → Decided P → Decided (P → ⊥)
decided_not (inl p) = inr (λ n. n p)
decided_not (inr n) = inl n

pub decided_if : {P Q : Type 0} → Decided P → Decided Q → Decided (P → Q)
decided_if (inr n) q = inl (λ p. absurd (n p))
decided_if (inl p) (inl q) = inl (λ h. q)
decided_if (inl p) (inr n) = inr (λ h. n (h p))

-- of each entry of a list
pub decided_each : {X : Type 0} (P : X → Type 0) → ((x : X) → Decided (P x)) → (xs : List X)
    → Decided ((x : X) → Contains xs x → P x)
decided_each P d [] = inl (λ x none. absurd (nothing_in x none))
decided_each P d (y ∷ ys) =
    ⊎_elim
    (λ first.
    ⊎_elim
    (λ rest. inl (λ x h. ⊎_elim (λ same. subst P same first) (λ later. rest x later) (in_cases y x ys h)))
    (λ not. inr (λ all. not (λ x later. all x (later_in y x ys later))))
    (decided_each P d ys))
    (λ not. inr (λ all. not (all y (here_in y ys))))
    (d y)

-- the best of those in a list for which P holds, and no worse than one that is at hand
pub record Best {X : Type 0} (P : X → Type 0) (NoWorse : X → X → Type 0) (start : X) (xs : List X) : Type 0 where
  pub best : X
  pub holds : P best
  pub than_start : NoWorse best start
  pub than_each : (x : X) → Contains xs x → P x → NoWorse best x

module _ {X : Type 0} (P : X → Type 0) (decide : (x : X) → Decided (P x)) (NoWorse : X → X → Type 0)
    (total : (x y : X) → NoWorse x y ⊎ NoWorse y x)
    (chain : (x y z : X) → NoWorse x y → NoWorse y z → NoWorse x z) where
  itself : (x : X) → NoWorse x x
  itself x = ⊎_elim (λ h. h) (λ h. h) (total x x)

  keep : (start y : X) (ys : List X) → (P y → NoWorse start y) → Best P NoWorse start ys
      → Best P NoWorse start (y ∷ ys)
  keep start y ys good rest =
      record {
        best = rest.best;
        holds = rest.holds;
        than_start = rest.than_start;
        than_each = λ x h p.
            ⊎_elim
            (λ same. subst (NoWorse rest.best) same
            (chain rest.best start y rest.than_start (good (subst P (sym same) p))))
            (λ later. rest.than_each x later p) (in_cases y x ys h);
      }

  change : (start y : X) (ys : List X) → NoWorse y start → Best P NoWorse y ys → Best P NoWorse start (y ∷ ys)
  change start y ys better rest =
      record {
        best = rest.best;
        holds = rest.holds;
        than_start = chain rest.best y start rest.than_start better;
        than_each = λ x h p.
            ⊎_elim (λ same. subst (NoWorse rest.best) same rest.than_start) (λ later. rest.than_each x later p)
            (in_cases y x ys h);
      }

  pub best_of : (start : X) → P start → (xs : List X) → Best P NoWorse start xs
  best_of start p [] =
      record {
        best = start;
        holds = p;
        than_start = itself start;
        than_each = λ x none. absurd (nothing_in x none);
      }
  best_of start p (y ∷ ys) =
      ⊎_elim
      (λ q.
      ⊎_elim (λ good. keep start y ys (λ r. good) (best_of start p ys))
      (λ better. change start y ys better (best_of y q ys)) (total start y))
      (λ n. keep start y ys (λ q. absurd (n q)) (best_of start p ys))
      (decide y)

-- ---- lists of so many numbers below a bound

abbrev pub lists_of : (count length : ℕ) → List (List ℕ)
lists_of n zero = [] ∷ []
lists_of n (suc k) = flat_map (λ xs. map (λ a. a ∷ xs) (range_with_len 0 n)) (lists_of n k)

abbrev pub AreBelow : ℕ → List ℕ → Type 0
AreBelow n xs = (a : ℕ) → Contains xs a → a < n

pub lists_have : (n : ℕ) (xs : List ℕ) → AreBelow n xs → Contains (lists_of n (length xs)) xs
lists_have n [] h = here_in [] []
lists_have n (x ∷ xs) h =
    let below = h x (here_in x xs) in
    flat_map_has (λ ys. map (λ a. a ∷ ys) (range_with_len 0 n)) (lists_of n (length xs)) xs (x ∷ xs)
    (lists_have n xs (λ a later. h a (later_in x a xs later)))
    (map_has (λ a. a ∷ xs) (range_with_len 0 n) x (range_has 0 n x (omega arith) (omega (arith, below))))

-- ---- a list without repetition is no longer than one with its entries

abbrev removed : ℕ → List ℕ → List ℕ
removed a [] = []
removed a (y ∷ ys) = if a == y then ys else y ∷ removed a ys

length-removed : (a : ℕ) (ys : List ℕ) → Contains ys a → length ys ≡ suc (length (removed a ys))
length-removed a [] h = absurd (nothing_in a h)
length-removed a (y ∷ ys) h = by (λ later. length-removed a ys later) (a == y) refl
  where
    by : (Contains ys a → length ys ≡ suc (length (removed a ys))) → (t : Bool) → (a == y) ≡ t
        → suc (length ys) ≡ suc (length (if t then ys else y ∷ removed a ys))
    by rest true e = refl
    by rest false e =
        ⊎_elim (λ same. absurd (let f = eq-eqb a y (sym same) in let z : ⊥ = grind (arith, e, f) in z))
        (λ later. ap suc (rest later)) (in_cases y a ys h)

removed_has : (a : ℕ) (ys : List ℕ) (b : ℕ) → Contains ys b → b ≢ a → Contains (removed a ys) b
removed_has a [] b h other = absurd (nothing_in b h)
removed_has a (y ∷ ys) b h other = by (λ later. removed_has a ys b later other) (a == y) refl
  where
    by : (Contains ys b → Contains (removed a ys) b) → (t : Bool) → (a == y) ≡ t
        → Contains (if t then ys else y ∷ removed a ys) b
    by rest true e =
        ⊎_elim (λ same. absurd (other (sym same ∙ sym (eqb-true a y e)))) (λ later. later) (in_cases y b ys h)
    by rest false e =
        ⊎_elim (λ same. subst (Contains (y ∷ removed a ys)) same (here_in y (removed a ys)))
        (λ later. later_in y b (removed a ys) (rest later)) (in_cases y b ys h)

pub no_longer : (xs ys : List ℕ) → AreDistinct xs → HasAll ys xs → length xs ≤ length ys
no_longer [] ys d h = omega arith
no_longer (x ∷ xs) ys d h =
    let rest = no_longer xs (removed x ys) d.1
    (λ a later. removed_has x ys a (h a (later_in x a xs later)) (λ same. d.0 (subst (Contains xs) same later))) in
    let one = length-removed x ys (h x (here_in x xs)) in
    omega (arith, rest, one)

-- ---- lists compared from the left

before_chain : (xs ys zs : List ℕ) → Before xs ys → Before ys zs → Before xs zs
before_chain [] ys zs h k = absurd h
before_chain (x ∷ xs) [] zs h k = absurd h
before_chain (x ∷ xs) (y ∷ ys) [] h k = absurd k
before_chain (x ∷ xs) (y ∷ ys) (z ∷ zs) h k =
    ⊎_elim
    (λ less. ⊎_elim (λ more. inl (omega (arith, less, more))) (λ same. let e = same.0 in inl (omega (arith, less, e))) k)
    (λ same.
    let e = same.0 in
    ⊎_elim (λ more. inl (omega (arith, more, e)))
    (λ other. inr (same.0 ∙ other.0, before_chain xs ys zs same.1 other.1)) k)
    h

at_most_chain : (xs ys zs : List ℕ) → IsAtMost xs ys → IsAtMost ys zs → IsAtMost xs zs
at_most_chain xs ys zs h k =
    ⊎_elim (λ same. subst (λ xs. IsAtMost xs zs) (sym same) k)
    (λ less.
    ⊎_elim (λ same. inr (subst (Before xs) same less)) (λ more. inr (before_chain xs ys zs less more)) k)
    h

at_most_later : (x y : ℕ) (xs ys : List ℕ) → x ≡ y → IsAtMost xs ys → IsAtMost (x ∷ xs) (y ∷ ys)
at_most_later x y xs ys e h =
    ⊎_elim (λ same. inl (ap (λ z. z ∷ xs) e ∙ ap (λ zs. y ∷ zs) same)) (λ less. inr (inr (e, less))) h

at_most_total : (xs ys : List ℕ) → length xs ≡ length ys → IsAtMost xs ys ⊎ IsAtMost ys xs
at_most_total [] [] e = inl (inl refl)
at_most_total [] (y ∷ ys) e = absurd (let z : ⊥ = omega (arith, e) in z)
at_most_total (x ∷ xs) [] e = absurd (let z : ⊥ = omega (arith, e) in z)
at_most_total (x ∷ xs) (y ∷ ys) e =
    ⊎_elim
    (λ same.
    ⊎_elim (λ h. inl (at_most_later x y xs ys same h)) (λ h. inr (at_most_later y x ys xs (sym same) h))
    (at_most_total xs ys (omega (arith, e))))
    (⊎_elim (λ less. inl (inr (inl less))) (λ more. inr (inr (inl more))))
    (cases_order x y)

-- longer, or of one length and at most the other
abbrev pub Preferred : List ℕ → List ℕ → Type 0
Preferred xs ys = (length ys < length xs) ⊎ ((length xs ≡ length ys) × IsAtMost xs ys)

pub preferred_total : (xs ys : List ℕ) → Preferred xs ys ⊎ Preferred ys xs
preferred_total xs ys =
    ⊎_elim
    (λ same.
    ⊎_elim (λ h. inl (inr (same, h))) (λ h. inr (inr (sym same, h))) (at_most_total xs ys same))
    (⊎_elim (λ less. inr (inl less)) (λ more. inl (inl more)))
    (cases_order (length xs) (length ys))

pub preferred_chain : (xs ys zs : List ℕ) → Preferred xs ys → Preferred ys zs → Preferred xs zs
preferred_chain xs ys zs h k =
    ⊎_elim
    (λ less. ⊎_elim (λ more. inl (omega (arith, less, more))) (λ same. let e = same.0 in inl (omega (arith, less, e))) k)
    (λ same.
    let e = same.0 in
    ⊎_elim (λ more. inl (omega (arith, more, e)))
    (λ other. inr (same.0 ∙ other.0, at_most_chain xs ys zs same.1 other.1)) k)
    h
