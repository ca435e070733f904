-- Numbers of rows and places in them.
use Rattle.std.proofs.Common.{◌≡◌, ℕ, ◌+◌, ◌*◌, ◌<◌, ◌≤◌, sym, ap, subst, ⊎_elim, arith, suc}
use Rattle.std.proofs.lemmas.Bool.{cases_lt}
use Rattle.std.proofs.Math.Nat.{mul-le-mul_right, suc-mul}

-- a row begins where the one before ends, or later
pub row_after : (n a b : ℕ) → a < b → a * n + n ≤ b * n
row_after n a b less =
    let next : suc a ≤ b = omega (arith, less) in
    let rows = mul-le-mul_right n next in
    subst (λ m. m ≤ b * n) (suc-mul a n) rows

pub row_within : (n a b k : ℕ) → k < n → a < b → a * n + k < b * n
row_within n a b k below less =
    let after = row_after n a b less in
    by (a * n) (b * n) after
  where
    by : (x y : ℕ) → x + n ≤ y → x + k < y
    by x y after = omega (arith, after, below)

-- equal places are in one row
pub row_split : (n a b k l : ℕ) → k < n → l < n → a * n + k ≡ b * n + l → (a ≡ b) × (k ≡ l)
row_split n a b k l in_a in_b same =
    ⊎_elim (λ less. absurd (ends a b k l in_a less same))
    (λ more.
    ⊎_elim (λ less. absurd (ends b a l k in_b less (sym same)))
    (λ most.
    let one : a ≡ b = omega (arith, more, most) in
    (one, last (a * n) (b * n) (ap (λ m. m * n) one) same))
    (cases_lt b a))
    (cases_lt a b)
  where
    ends : (c d i j : ℕ) → i < n → c < d → c * n + i ≡ d * n + j → ⊥
    ends c d i j below less is = by (c * n) (d * n) (row_after n c d less) is
      where
        by : (x y : ℕ) → x + n ≤ y → x + i ≡ y + j → ⊥
        by x y after is = omega (arith, after, below, is)

    last : (x y : ℕ) → x ≡ y → x + k ≡ y + l → k ≡ l
    last x y e is = omega (arith, e, is)
