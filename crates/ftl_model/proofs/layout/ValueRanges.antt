-- Results are in the range of their width.
use Rattle.std.proofs.Common.{◌≡◌, ℕ, zero, suc, ◌<◌, Bool, true, false, ◌&&◌, cond, refl, sym, arith, ℤ, pos, negsuc, ◌+ℤ◌, ◌≤ℤ◌, int_le, int_lt, subst}
use Rattle.std.specs.Int.{int_max}
use Rattle.std.proofs.lemmas.Int.{ints}
use Rattle.ftl_model.specs.layout.Folds.{fold_kids}
use Rattle.ftl_model.specs.layout.Values.{Value, number, overflow, in_range, IsValueIn, value_of, sum_of, greatest_of}

from_tests : (p q : Bool) → (p && q) ≡ true → (p ≡ true) × (q ≡ true)
from_tests true q h = (refl, h)
from_tests false q h = absurd (let z : ⊥ = grind arith in z)

tested_le : (a b : ℤ) → int_le a b ≡ true → a ≤ℤ b
tested_le a b h = grind (arith, ints, h)

-- the value of an exact result
pub value_of_in : (greatest : ℕ) (n : ℤ) → IsValueIn greatest (value_of greatest n)
value_of_in greatest n =
    elim (in_range greatest n) as (λ b. (in_range greatest n ≡ b) → IsValueIn greatest (cond b (number n) overflow)) [
      | true ↦ λ e.
          let tests = from_tests (int_le (negsuc greatest) n) (int_le n (pos greatest)) e in
          (tested_le (negsuc greatest) n tests.0, tested_le n (pos greatest) tests.1)
      | false ↦ λ e. tt
    ]
    refl

pub sum_in : (greatest : ℕ) (a b : Value) → IsValueIn greatest (sum_of greatest a b)
sum_in greatest (number m) (number n) = value_of_in greatest (m +ℤ n)
sum_in greatest (number m) overflow = tt
sum_in greatest overflow b = tt

-- the greatest of two values in range
pub greatest_in : (greatest : ℕ) (a b : Value) → IsValueIn greatest a → IsValueIn greatest b
    → IsValueIn greatest (greatest_of a b)
greatest_in greatest (number m) (number n) h k =
    elim (int_lt n m) as
    (λ b. IsValueIn greatest (number (cond b m n))) [ true ↦ h | false ↦ k ]
greatest_in greatest (number m) overflow h k = tt
greatest_in greatest overflow b h k = tt

-- what holds at the start and is kept by each step holds at the end
pub fold_keeps : (P : Value → Type 0) (n : ℕ) (f : Value → ℕ → Value) (start : Value) → P start
    → ((k : ℕ) → k < n → (acc : Value) → P acc → P (f acc k)) → P (fold_kids n f start)
fold_keeps P zero f start h keeps = h
fold_keeps P (suc n) f start h keeps =
    keeps n (omega arith) (fold_kids n f start)
    (fold_keeps P n f start h (λ k below acc. keeps k (omega arith) acc))
