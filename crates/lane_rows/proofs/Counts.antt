-- How many numbers are in the set that words stand for: the sum of the ones of all words.
use Rattle.std.proofs.Common.{◌≡◌, ℕ, zero, suc, ◌+◌, ◌*◌, ◌/◌, ◌%◌, ◌^◌, ◌<◌, ◌≤◌, Bool, true, false, cond, List, [], ◌∷◌, ◌++◌, map, length, ◌==◌, count_ones, w32, w64, Fits, refl, ap, ◌∙◌, arith}
use Rattle.std.specs.Ordering.{nat_cmp}
use Rattle.std.specs.FinSet as set
use Rattle.std.specs.Simd.Lanes.{fold_l, Each1}
use Rattle.std.specs.Int.Count.{ones_step, ones-le}
use Rattle.std.specs.Cmp.{nat_cmp_total}
use Rattle.std.proofs.Math.Nat.{two-pow-succ}
use Rattle.lane_rows.specs.Words.{bits_of, all_bits, set_from, row_of}
use Rattle.lane_rows.proofs.Bits.{below-set_from}

-- how many bits are set
abbrev trues : List Bool → ℕ
trues [] = 0
trues (bit ∷ bits) = cond bit 1 0 + trues bits

trues-append : (xs ys : List Bool) → trues (xs ++ ys) ≡ trues xs + trues ys
trues-append [] ys = omega arith
trues-append (x ∷ xs) ys = omega (arith, trues-append xs ys)

bit_as_number : (n : ℕ) → n < 2 → cond (n == 1) 1 0 ≡ n
bit_as_number zero h = refl
bit_as_number (suc zero) h = refl
bit_as_number (suc (suc n)) h = absurd (omega arith)

trues-bits_of : (count word : ℕ) → word < 2 ^ count → trues (bits_of count word) ≡ count_ones word
unfolding bits_of
trues-bits_of zero word h = omega (arith, ones-le 0 word h)
trues-bits_of (suc count) word h =
    let low = bit_as_number (word % 2) (omega arith) in
    let rest = trues-bits_of count (word / 2) (omega (arith, two-pow-succ count)) in
    omega (arith, low, rest, ones_step word)

len-set_from : (number : ℕ) (bits : List Bool) → set.len (set_from number bits) ≡ trues bits
unfolding set_from
len-set_from number [] = set.len-empty nat_cmp
len-set_from number (true ∷ bits) =
    let rest = set_from (number + 1) bits in
    set.len-insert nat_cmp_total rest number
    ∙ ap (λ b. cond b (set.len rest) (set.len rest + 1)) (below-set_from (number + 1) bits number (omega arith))
    ∙ omega (arith, len-set_from (number + 1) bits)
len-set_from number (false ∷ bits) = len-set_from (number + 1) bits ∙ omega arith

-- one word more in the sum
abbrev pub added : ℕ → ℕ → ℕ
added sum ones = (sum + ones) % 2 ^ 64

trues-all_bits : (words : List ℕ) → Each1 (Fits w64) words → (sum : ℕ) → sum + 64 * length words < 2 ^ 64
    → (fold_l added sum (map (λ x. x) (map count_ones words)) ≡ sum + trues (all_bits words))
    × (trues (all_bits words) ≤ 64 * length words)
unfolding all_bits
trues-all_bits [] fits sum room = (omega arith, omega arith)
trues-all_bits (word ∷ words) fits sum room =
    let few : count_ones word ≤ 64 = ones-le 64 word fits.0.fits in
    let first : trues (bits_of 64 word) ≡ count_ones word = trues-bits_of 64 word fits.0.fits in
    let both : trues (bits_of 64 word ++ all_bits words) ≡ trues (bits_of 64 word) + trues (all_bits words) =
    trues-append (bits_of 64 word) (all_bits words) in
    let rest = trues-all_bits words fits.1 (sum + count_ones word) (omega arith) in (
      ap (λ s. fold_l added s (map (λ x. x) (map count_ones words))) (omega arith) ∙ rest.0 ∙ omega arith,
      omega (arith, rest.1),
    )

-- the sum, which is at most 64 for each word
pub len-row_of : (words : List ℕ) → Each1 (Fits w64) words → 64 * length words < 2 ^ 64
    → (fold_l added 0 (map (λ x. x) (map count_ones words)) ≡ set.len (row_of words))
    × (set.len (row_of words) ≤ 64 * length words)
unfolding row_of
len-row_of words fits room =
    let all = trues-all_bits words fits 0 (omega arith) in
    let is : set.len (set_from 0 (all_bits words)) ≡ trues (all_bits words) = len-set_from 0 (all_bits words) in
    (omega (arith, all.0, is), omega (arith, all.1, is))

pub sum_fits : (words : List ℕ) → length words ≡ 32 → Each1 (Fits w64) words
    → Fits w32 (fold_l added 0 (map (λ x. x) (map count_ones words)))
sum_fits words long fits =
    let all = len-row_of words fits (omega arith) in
    record { fits = omega (arith, all.0, all.1) }
