-- How many numbers below a bound have a property.
use Rattle.std.specs.Prelude.{ℕ, zero, suc}

-- of the numbers below the first, the second is how many have the property
pub data Counts (P : ℕ → Type 0) : ℕ → ℕ → Type 0 where
  at_zero : Counts P zero zero
  counts_it : {k n : ℕ} → P k → Counts P k n → Counts P (suc k) (suc n)
  skips_it : {k n : ℕ} → (P k → ⊥) → Counts P k n → Counts P (suc k) n
