-- How many of the reads that were taken are of something.
use Rattle.std.proofs.Common.{◌≡◌, ℕ, zero, suc, ◌+◌, ◌<◌, ◌≤◌, List, [], ◌∷◌, length, take, get_or, Option, Some, None, add-one, ap, ◌∙◌, arith}
use Rattle.ftl_model.specs.layout.Values.{Value}
use Rattle.ftl_visit.specs.rule_code.Machine.{there_in}

-- no more than there are
pub there_few : (rs : List (Option Value)) (n : ℕ) → there_in (take n rs) ≤ n
there_few rs zero = omega arith
there_few [] (suc n) = omega arith
there_few (Some v ∷ rs) (suc n) = omega (arith, there_few rs n)
there_few (None ∷ rs) (suc n) = omega (arith, there_few rs n)

there_next : (rs : List (Option Value)) (n : ℕ) → n < length rs
    → there_in (take (suc n) rs) ≡ there_in (take n rs) + there_in (get_or rs n None ∷ [])
there_next [] n h = absurd (let z : ⊥ = omega (arith, h) in z)
there_next (Some v ∷ rs) zero h = omega arith
there_next (None ∷ rs) zero h = omega arith
there_next (Some v ∷ rs) (suc n) h = omega (arith, there_next rs n (omega (arith, h)))
there_next (None ∷ rs) (suc n) h = omega (arith, there_next rs n (omega (arith, h)))

-- one read more
pub there_more : (rs : List (Option Value)) (n : ℕ) → n < length rs
    → there_in (take (n + 1) rs) ≡ there_in (take n rs) + there_in (get_or rs n None ∷ [])
there_more rs n h = ap (λ k. there_in (take k rs)) (add-one n) ∙ there_next rs n h

-- what a step takes
pub ruleset there_steps = (there_few, there_more)
