-- What is shown number by number, below a bound, and who owns an attribute.
use Rattle.std.proofs.Common.{◌≡◌, ℕ, zero, suc, ◌<◌, sym, ◌∙◌, subst, ⊎_elim, arith}
use Rattle.std.proofs.lemmas.Bool.{cases_lt}

-- of each number below n, from the last one on
abbrev pub EachBelow : (ℕ → Type 0) → ℕ → Type 0
EachBelow P zero = Unit {0}
EachBelow P (suc n) = P n × EachBelow P n

pub each_below : (P : ℕ → Type 0) (n : ℕ) → EachBelow P n → (k : ℕ) → k < n → P k
each_below P zero h k below = absurd (let z : ⊥ = omega (arith, below) in z)
each_below P (suc n) h k below =
    ⊎_elim (λ less. each_below P n h.1 k less)
    (λ last. let e : n ≡ k = omega (arith, below, last) in subst P e h.0) (cases_lt k n)
