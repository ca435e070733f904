-- Which numbers are in the set that words stand for, by the bits of each word.
use Rattle.std.proofs.Common.{◌≡◌, ℕ, zero, suc, ◌+◌, ◌*◌, ◌/◌, ◌%◌, ◌^◌, ◌<◌, Bool, true, false, ◌||◌, List, [], ◌∷◌, ◌++◌, length, get_or, ◌==◌, replicate, bit_or, w64, inl, inr, refl, sym, ap, ap₂, ◌∙◌, arith}
use Rattle.std.specs.Int.{bit_at}
use Rattle.std.specs.Ordering.{nat_cmp}
use Rattle.std.specs.FinSet as set
use Rattle.std.specs.Cmp.{nat_cmp_total, unsigned_tied}
use Rattle.std.proofs.lemmas.Bool.{eq-eqb, ne_eqb, cases_eq}
use Rattle.std.proofs.lemmas.List.{get_or_append_left, get_or-append-add, get_or-set_same, get_or-set_other}
use lib.ListN.{set as set_at}
use Rattle.std.proofs.lemmas.Nat.Bits.{bit_at_lowest, bit_at-suc, bit_at-zero, bit_at_set_same, bit_at_set_other}
use Rattle.lane_rows.specs.Words.{bits_of, all_bits, set_from, row_of}

-- whether bit i of a word is set
abbrev pub is_set : ℕ → ℕ → Bool
is_set word i = bit_at word i == 1

length-bits_of : (count word : ℕ) → length (bits_of count word) ≡ count
unfolding bits_of
length-bits_of zero word = refl
length-bits_of (suc count) word = ap suc (length-bits_of count (word / 2))

get_or-bits_of : (count word i : ℕ) → i < count → get_or (bits_of count word) i false ≡ is_set word i
unfolding bits_of
get_or-bits_of zero word i h = absurd (omega arith)
get_or-bits_of (suc count) word zero h = ap (λ n. n == 1) (sym (bit_at_lowest word))
get_or-bits_of (suc count) word (suc i) h =
    get_or-bits_of count (word / 2) i (omega arith) ∙ ap (λ n. n == 1) (sym (bit_at-suc word i))

get_or-all_bits : (words : List ℕ) (l i : ℕ) → i < 64
    → get_or (all_bits words) (64 * l + i) false ≡ is_set (get_or words l 0) i
unfolding all_bits
get_or-all_bits [] l i h = ap (λ n. n == 1) (sym (bit_at-zero i))
get_or-all_bits (word ∷ words) zero i h =
    let place : 64 * 0 + i ≡ i = omega arith in
    ap (λ n. get_or (bits_of 64 word ++ all_bits words) n false) place
    ∙ get_or_append_left (bits_of 64 word) (all_bits words) false i (omega (arith, length-bits_of 64 word))
    ∙ get_or-bits_of 64 word i h
get_or-all_bits (word ∷ words) (suc l) i h =
    let place : 64 * suc l + i ≡ length (bits_of 64 word) + (64 * l + i) = omega (arith, length-bits_of 64 word) in
    ap (λ n. get_or (bits_of 64 word ++ all_bits words) n false) place
    ∙ get_or-append-add (bits_of 64 word) (all_bits words) (64 * l + i) false
    ∙ get_or-all_bits words l i h

-- where a number was added
pub contains-insert_nat : (s : set.FinSet nat_cmp) (k q : ℕ)
    → set.contains (set.insert s k) q ≡ ((q == k) || set.contains s q)
contains-insert_nat s k q =
    set.contains-insert nat_cmp_total s k q ∙ ap (λ b. b || set.contains s q) (unsigned_tied q k)

-- no number is in the set that is below the first bit's
pub below-set_from : (number : ℕ) (bits : List Bool) (q : ℕ) → q < number
    → set.contains (set_from number bits) q ≡ false
unfolding set_from
below-set_from number [] q h = set.contains-empty nat_cmp q
below-set_from number (true ∷ bits) q h =
    contains-insert_nat (set_from (number + 1) bits) number q
    ∙ ap (λ b. b || set.contains (set_from (number + 1) bits) q) (ne_eqb q number (λ e. omega arith))
    ∙ below-set_from (number + 1) bits q (omega arith)
below-set_from number (false ∷ bits) q h = below-set_from (number + 1) bits q (omega arith)

contains-set_from : (number : ℕ) (bits : List Bool) (j : ℕ)
    → set.contains (set_from number bits) (number + j) ≡ get_or bits j false
unfolding set_from
contains-set_from number [] j = set.contains-empty nat_cmp (number + j)
contains-set_from number (true ∷ bits) zero =
    contains-insert_nat (set_from (number + 1) bits) number (number + 0)
    ∙ ap (λ b. b || set.contains (set_from (number + 1) bits) (number + 0)) (eq-eqb (number + 0) number (omega arith))
contains-set_from number (false ∷ bits) zero = below-set_from (number + 1) bits (number + 0) (omega arith)
contains-set_from number (true ∷ bits) (suc j) =
    let place : number + suc j ≡ number + 1 + j = omega arith in
    contains-insert_nat (set_from (number + 1) bits) number (number + suc j)
    ∙ ap (λ b. b || set.contains (set_from (number + 1) bits) (number + suc j))
    (ne_eqb (number + suc j) number (λ e. omega arith))
    ∙ ap (set.contains (set_from (number + 1) bits)) place
    ∙ contains-set_from (number + 1) bits j
contains-set_from number (false ∷ bits) (suc j) =
    let place : number + suc j ≡ number + 1 + j = omega arith in
    ap (set.contains (set_from (number + 1) bits)) place ∙ contains-set_from (number + 1) bits j

-- a number is in the set where its bit is set
pub contains-row_of : (words : List ℕ) (q : ℕ)
    → set.contains (row_of words) q ≡ is_set (get_or words (q / 64) 0) (q % 64)
unfolding row_of
contains-row_of words q =
    let place : q ≡ 0 + (64 * (q / 64) + q % 64) = omega arith in
    ap (set.contains (set_from 0 (all_bits words))) place
    ∙ contains-set_from 0 (all_bits words) (64 * (q / 64) + q % 64)
    ∙ get_or-all_bits words (q / 64) (q % 64) (omega arith)

-- the set is the one whose numbers are those of the bits that are set
pub row_of-is : (words : List ℕ) (s : set.FinSet nat_cmp)
    → ((q : ℕ) → is_set (get_or words (q / 64) 0) (q % 64) ≡ set.contains s q) → row_of words ≡ s
row_of-is words s same =
    set.same_set nat_cmp_total set.nat_cmp-IsAntisymmetric (row_of words) s (λ q. contains-row_of words q ∙ same q)

-- words that are all 0
get_or-zeroes : (n l : ℕ) → get_or {A = ℕ} (replicate n 0) l 0 ≡ zero
get_or-zeroes zero l = refl
get_or-zeroes (suc n) zero = refl
get_or-zeroes (suc n) (suc l) = get_or-zeroes n l

pub row_of-zeroes : (n : ℕ) → row_of (replicate n 0) ≡ set.empty
row_of-zeroes n =
    row_of-is (replicate n 0) set.empty (λ q.
    ap (λ w. is_set w (q % 64)) (get_or-zeroes n (q / 64))
    ∙ ap (λ b. b == 1) (bit_at-zero (q % 64))
    ∙ sym (set.contains-empty nat_cmp q))

-- a word with one more bit set
is_set-put : (word k i : ℕ) → k < 64 → is_set (bit_or word (1 * 2 ^ k % 2 ^ 64)) i ≡ ((i == k) || is_set word i)
is_set-put word k i within =
    elim (cases_eq i k) [
      | inl same ↦ rw same (ap (λ n. n == 1) (bit_at_set_same w64 word k within)
          ∙ ap (λ b. b || is_set word k) (sym (eq-eqb k k refl)))
      | inr other ↦ ap (λ n. n == 1) (bit_at_set_other w64 word k within i other)
          ∙ ap (λ b. b || is_set word i) (sym (ne_eqb i k other))
    ]

-- the words of a set with one more number
pub row_of-put : (words : List ℕ) (bit : ℕ) → bit / 64 < length words
    → row_of (set_at words (bit / 64) (bit_or (get_or words (bit / 64) 0) (1 * 2 ^ (bit % 64) % 2 ^ 64)))
    ≡ set.insert (row_of words) bit
row_of-put words bit within =
    let word = get_or words (bit / 64) 0 in
    let put = bit_or word (1 * 2 ^ (bit % 64) % 2 ^ 64) in
    row_of-is (set_at words (bit / 64) put) (set.insert (row_of words) bit) (λ q.
    elim (cases_eq (q / 64) (bit / 64)) [
      | inl same ↦
          ap (λ w. is_set w (q % 64)) (ap (λ l. get_or (set_at words (bit / 64) put) l 0) same
          ∙ get_or-set_same words (bit / 64) put 0 within)
          ∙ is_set-put word (bit % 64) (q % 64) (omega arith)
          ∙ ap₂ (λ a b. a || b) (same_place q bit same) (ap (λ l. is_set (get_or words l 0) (q % 64)) (sym same)
          ∙ sym (contains-row_of words q))
          ∙ sym (contains-insert_nat (row_of words) bit q)
      | inr other ↦
          ap (λ w. is_set w (q % 64)) (get_or-set_other words (bit / 64) (q / 64) put 0 other)
          ∙ sym (contains-row_of words q)
          ∙ ap (λ b. b || set.contains (row_of words) q) (sym (ne_eqb q bit (λ e. other (ap (λ n. n / 64) e))))
          ∙ sym (contains-insert_nat (row_of words) bit q)
    ])
  where
    same_place : (q bit : ℕ) → q / 64 ≡ bit / 64 → (q % 64 == bit % 64) ≡ (q == bit)
    same_place q bit same =
        elim (cases_eq q bit) [
          | inl e ↦ eq-eqb (q % 64) (bit % 64) (ap (λ n. n % 64) e) ∙ sym (eq-eqb q bit e)
          | inr e ↦ ne_eqb (q % 64) (bit % 64) (λ h. e (omega arith)) ∙ sym (ne_eqb q bit e)
        ]
