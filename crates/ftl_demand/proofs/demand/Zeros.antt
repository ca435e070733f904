-- How many words are 0.
use Rattle.std.proofs.Common.{◌≡◌, ◌≢◌, ℕ, zero, suc, ◌+◌, ◌-◌, ◌*◌, ◌<◌, ◌≤◌, List, [], ◌∷◌, length, get_or, refl, ap, subst, arith}
use lib.ListN.{set}

-- how many words are 0
abbrev pub zeros : List ℕ → ℕ
zeros [] = 0
zeros (zero ∷ ws) = suc (zeros ws)
zeros (suc w ∷ ws) = zeros ws

pub one_less : (ws : List ℕ) (k v : ℕ) → k < length ws → get_or ws k 0 ≡ 0 → v ≢ 0
    → suc (zeros (set ws k v)) ≡ zeros ws
one_less [] k v below none some = absurd (omega (arith, below))
one_less (zero ∷ ws) zero zero below none some = absurd (some refl)
one_less (zero ∷ ws) zero (suc v) below none some = refl
one_less (suc w ∷ ws) zero v below none some = absurd (let q : ⊥ = omega (arith, none) in q)
one_less (zero ∷ ws) (suc k) v below none some = ap suc (one_less ws k v (omega (arith, below)) none some)
one_less (suc w ∷ ws) (suc k) v below none some = one_less ws k v (omega (arith, below)) none some

-- the measure falls where a word is computed, and where one more step waits
pub less_to_do : (zeros_before zeros_now count waits : ℕ) → suc zeros_now ≡ zeros_before
    → zeros_now * (count + 2) + ((count + 1) - waits) < zeros_before * (count + 2) + ((count + 1) - (waits + 1))
less_to_do zeros_before zeros_now count waits e =
    subst (λ z. zeros_now * (count + 2) + ((count + 1) - waits) < z * (count + 2) + ((count + 1) - (waits + 1))) e
    (grind arith)

pub more_waits : (a count waits : ℕ) → waits + 1 ≤ count
    → a + ((count + 1) - (waits + 2)) < a + ((count + 1) - (waits + 1))
more_waits a count waits few = omega (arith, few)
