-- The least number of a set.
use Rattle.std.specs.Prelude.{◌≡◌, ℕ, ◌<◌, true, false}
use Rattle.std.specs.Ordering.{nat_cmp}
use Rattle.std.specs.FinSet as set

-- the number is in the set and below 2048, and no smaller one is in the set
pub record IsLeastOf (row : set.FinSet nat_cmp) (least : ℕ) : Type 0 where
  pub within : least < 2048
  pub is_in : set.contains row least ≡ true
  pub none_below : (number : ℕ) → number < least → set.contains row number ≡ false
