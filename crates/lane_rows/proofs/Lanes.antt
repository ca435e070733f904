-- What the operations on all lanes do to each bit, and the first lane and bit that are not 0.
use Rattle.std.proofs.Common.{◌≡◌, ℕ, zero, suc, ◌-◌, ◌/◌, ◌%◌, ◌^◌, ◌<◌, min, max, false, not, ◌||◌, ◌&&◌, List, [], ◌∷◌, map, length, get_or, ◌==◌, bit_and, bit_or, w64, Fits, refl, sym, ap, ap₂, ◌∙◌, arith}
use Rattle.std.specs.Int.{bit_at, bit_not}
use Rattle.std.specs.FinSet as set
use Rattle.std.specs.Simd.Lanes.{zip2, Each1}
use Rattle.std.specs.Cmp.{nat_cmp_total}
use Rattle.std.proofs.lemmas.Nat.Bits.{bit_at-zero, bit_at-lt, bit_at_or, bit_at_and, bit_at_not}
use Rattle.lane_rows.specs.Words.{row_of}
use Rattle.lane_rows.proofs.Bits.{is_set, contains-row_of, row_of-is}

is_one-max : (x y : ℕ) → x < 2 → y < 2 → (max x y == 1) ≡ ((x == 1) || (y == 1))
is_one-max zero zero a b = refl
is_one-max zero (suc zero) a b = refl
is_one-max (suc zero) zero a b = refl
is_one-max (suc zero) (suc zero) a b = refl
is_one-max (suc (suc x)) y a b = absurd (omega arith)
is_one-max zero (suc (suc y)) a b = absurd (omega arith)
is_one-max (suc zero) (suc (suc y)) a b = absurd (omega arith)

is_one-min_not : (x y : ℕ) → x < 2 → y < 2 → (min x (1 - y) == 1) ≡ ((x == 1) && not (y == 1))
is_one-min_not zero zero a b = refl
is_one-min_not zero (suc zero) a b = refl
is_one-min_not (suc zero) zero a b = refl
is_one-min_not (suc zero) (suc zero) a b = refl
is_one-min_not (suc (suc x)) y a b = absurd (omega arith)
is_one-min_not zero (suc (suc y)) a b = absurd (omega arith)
is_one-min_not (suc zero) (suc (suc y)) a b = absurd (omega arith)

is_set-or : (a b i : ℕ) → is_set (bit_or a b) i ≡ (is_set a i || is_set b i)
is_set-or a b i =
    ap (λ n. n == 1) (bit_at_or a b i) ∙ is_one-max (bit_at a i) (bit_at b i) (bit_at-lt a i) (bit_at-lt b i)

is_set-and_not : (a b i : ℕ) → b < 2 ^ 64 → i < 64
    → is_set (bit_and a (bit_not w64 b)) i ≡ (is_set a i && not (is_set b i))
is_set-and_not a b i fits below =
    ap (λ n. n == 1) (bit_at_and a (bit_not w64 b) i ∙ ap (min (bit_at a i)) (bit_at_not w64 b i fits below))
    ∙ is_one-min_not (bit_at a i) (bit_at b i) (bit_at-lt a i) (bit_at-lt b i)

not_set-zero : (i : ℕ) → is_set 0 i ≡ false
not_set-zero i = ap (λ n. n == 1) (bit_at-zero i)

is_set-zip_or : (xs ys : List ℕ) → length xs ≡ length ys → (l i : ℕ)
    → is_set (get_or (zip2 bit_or xs ys) l 0) i ≡ (is_set (get_or xs l 0) i || is_set (get_or ys l 0) i)
is_set-zip_or [] [] long l i = ap (λ b. b || is_set 0 i) (sym (not_set-zero i))
is_set-zip_or [] (y ∷ ys) long l i = absurd (omega arith)
is_set-zip_or (x ∷ xs) [] long l i = absurd (omega arith)
is_set-zip_or (x ∷ xs) (y ∷ ys) long zero i = is_set-or x y i
is_set-zip_or (x ∷ xs) (y ∷ ys) long (suc l) i = is_set-zip_or xs ys (omega arith) l i

is_set-zip_and_not : (xs ys : List ℕ) → length xs ≡ length ys → Each1 (Fits w64) ys → (l i : ℕ) → i < 64
    → is_set (get_or (zip2 bit_and xs (map (bit_not w64) ys)) l 0) i
    ≡ (is_set (get_or xs l 0) i && not (is_set (get_or ys l 0) i))
is_set-zip_and_not [] [] long fits l i below =
    not_set-zero i ∙ ap (λ b. b && not (is_set 0 i)) (sym (not_set-zero i))
is_set-zip_and_not [] (y ∷ ys) long fits l i below = absurd (omega arith)
is_set-zip_and_not (x ∷ xs) [] long fits l i below = absurd (omega arith)
is_set-zip_and_not (x ∷ xs) (y ∷ ys) long fits zero i below = is_set-and_not x y i fits.0.fits below
is_set-zip_and_not (x ∷ xs) (y ∷ ys) long fits (suc l) i below = is_set-zip_and_not xs ys (omega arith) fits.1 l i below

-- the words of a union
pub row_of-or : (xs ys : List ℕ) → length xs ≡ length ys
    → row_of (zip2 bit_or xs ys) ≡ set.union (row_of xs) (row_of ys)
row_of-or xs ys long =
    row_of-is (zip2 bit_or xs ys) (set.union (row_of xs) (row_of ys)) (λ q.
    is_set-zip_or xs ys long (q / 64) (q % 64)
    ∙ ap₂ (λ a b. a || b) (sym (contains-row_of xs q)) (sym (contains-row_of ys q))
    ∙ sym (set.contains-union nat_cmp_total (row_of xs) (row_of ys) q))

-- the words of a difference
pub row_of-and_not : (xs ys : List ℕ) → length xs ≡ length ys → Each1 (Fits w64) ys
    → row_of (zip2 bit_and xs (map (bit_not w64) ys)) ≡ set.difference (row_of xs) (row_of ys)
row_of-and_not xs ys long fits =
    row_of-is (zip2 bit_and xs (map (bit_not w64) ys)) (set.difference (row_of xs) (row_of ys)) (λ q.
    is_set-zip_and_not xs ys long fits (q / 64) (q % 64) (omega arith)
    ∙ ap₂ (λ a b. a && not b) (sym (contains-row_of xs q)) (sym (contains-row_of ys q))
    ∙ sym (set.contains-difference nat_cmp_total (row_of xs) (row_of ys) q))
