-- Legal orders by what stands ahead, and by pairs.
use Rattle.std.proofs.Common.{◌≡◌, ℕ, suc, ◌<◌, Bool, true, false, if◌then◌else◌, sym, ◌∙◌, subst, inl, inr, ⊎_elim, arith, List, [], ◌∷◌, length, get_or, filter, Contains}
use Rattle.std.proofs.lemmas.List.{get_or_default}
use Rattle.ftl_model.specs.lists.Lists.{AreDistinct}
use Rattle.ftl_model.proofs.lists.Elements.{here_in, in_cases, in_filter, later_in, nothing_in}
use Rattle.ftl_model.proofs.lists.Rising.{Rising, rising_at}
use Rattle.ftl_model.specs.layout.AttributeGrammar.{AttributeGrammar}
use Rattle.ftl_model.specs.layout.Solves.{Instance}
use Rattle.ftl_model.specs.layout.Tree.{Forest}
use Rattle.ftl_order.specs.orders.LegalOrder.{IsLegalBy, IsStep}
use Rattle.ftl_items.proofs.stage_items.Ahead.{Ahead}

-- none stands before one that must come first
abbrev pub NotLate : {X : Type 0} → (X → X → Type 0) → X → X → Type 0
NotLate First a b = First b a → ⊥

ahead_in : {X : Type 0} (xs : List X) (x y : X) → Ahead xs x y → Contains xs x × Contains xs y
ahead_in [] x y h = absurd h
ahead_in (z ∷ zs) x y (inl h) = (subst (Contains (z ∷ zs)) h.0 (here_in z zs), later_in z y zs h.1)
ahead_in (z ∷ zs) x y (inr h) = let i = ahead_in zs x y h in (later_in z x zs i.0, later_in z y zs i.1)

pub rising_of_ahead : {X : Type 0} (First : X → X → Type 0) (xs : List X) → AreDistinct xs
    → ((x y : X) → Contains xs x → Contains xs y → First x y → Ahead xs x y) → Rising (NotLate First) xs
rising_of_ahead First [] d ahead = tt
rising_of_ahead {X} First (z ∷ zs) d ahead = (
  (λ y there first. late y there (ahead y z (later_in z y zs there) (here_in z zs) first)),
  rising_of_ahead First zs d.1
      (λ x y hx hy first. next x y hx (ahead x y (later_in z x zs hx) (later_in z y zs hy) first)),
)
  where
    late : (y : X) → Contains zs y → Ahead (z ∷ zs) y z → ⊥
    late y there (inl h) = d.0 h.1
    late y there (inr h) = d.0 (ahead_in zs y z h).1

    next : (x y : X) → Contains zs x → Ahead (z ∷ zs) x y → Ahead zs x y
    next x y hx (inl h) = absurd (d.0 (subst (Contains zs) (sym h.0) hx))
    next x y hx (inr h) = h

-- by a relation that rises, and is not both ways
pub ahead_by : {X : Type 0} (R : X → X → Type 0) (xs : List X) → Rising R xs → (x y : X) → Contains xs x → Contains xs y
    → (R y x → ⊥) → (x ≡ y → ⊥) → Ahead xs x y
ahead_by R [] rises x y hx hy no_back differ = absurd (nothing_in x hx)
ahead_by R (z ∷ zs) rises x y hx hy no_back differ =
    ⊎_elim
    (λ is_x. inl (is_x, ⊎_elim (λ is_y. absurd (differ (sym is_x ∙ is_y))) (λ later. later) (in_cases z y zs hy)))
    (λ later_x. inr
    (ahead_by R zs rises.1 x y later_x
    (⊎_elim (λ is_y. absurd (no_back (subst (λ v. R v x) is_y (rises.0 x later_x)))) (λ later. later) (in_cases z y zs hy))
    no_back differ)) (in_cases z x zs hx)

pub rising-filter : {X : Type 0} (R : X → X → Type 0) (p : X → Bool) (xs : List X) → Rising R xs → Rising R (filter p xs)
rising-filter R p [] r = tt
rising-filter {X} R p (x ∷ xs) r =
    elim (p x) as (λ b. Rising R (if b then x ∷ filter p xs else filter p xs)) [
      | true ↦ ((λ y h. r.0 y (in_filter p xs y h).0), rising-filter R p xs r.1)
      | false ↦ rising-filter R p xs r.1
    ]

module _ (g : AttributeGrammar) (t : Forest) (First : Instance → Instance → Type 0) where
  pub legal_by : (order : List Instance) → ((i : Instance) → Contains order i → IsStep g t i)
      → ((i : Instance) → IsStep g t i → Contains order i) → AreDistinct order → Rising (NotLate First) order
      → IsLegalBy g t First order
  legal_by order steps all once rises =
      record {
        steps = steps;
        all = all;
        once = once;
        legal = λ m n d less below. rising_at (NotLate First) order rises m n d less below;
      }

  -- and back
  pub legal_rises : (order : List Instance) → IsLegalBy g t First order → Rising (NotLate First) order
  legal_rises order legal = go order (λ m n d less below. legal.legal m n d less below)
    where
      go : (xs : List Instance)
          → ((m n : ℕ) (d : Instance) → m < n → n < length xs → First (get_or xs n d) (get_or xs m d) → ⊥)
          → Rising (NotLate First) xs
      go [] h = tt
      go (x ∷ xs) h = (
        (λ y there first.
            let b = there.1 in
            h 0 (suc there.0) x (omega arith) (omega (arith, b))
            (subst (λ z. First z x) (sym (get_or_default xs there.0 x y there.1 ∙ there.2)) first)),
        go xs (λ m n d less below. h (suc m) (suc n) d (omega (arith, less)) (omega (arith, below))),
      )
