-- The first lane that is not 0 and its lowest bit are the least number.
use Rattle.std.proofs.Common.{◌≡◌, ℕ, zero, suc, ◌+◌, ◌*◌, ◌/◌, ◌%◌, ◌<◌, Bool, true, false, not, ◌&&◌, cond, List, [], ◌∷◌, map, length, get_or, ◌==◌, eqb, w64, Fits, inl, inr, refl, sym, ap, ap₂, ◌∙◌, subst, arith}
use Rattle.std.specs.Int.{bit_at, trailing_zeros}
use Rattle.std.specs.List.{prefix_len}
use Rattle.std.specs.Ordering.{nat_cmp}
use Rattle.std.specs.FinSet as set
use Rattle.std.specs.Simd.Lanes.{Each1, mask_l}
use Rattle.std.specs.Cmp.{nat_cmp_total}
use Rattle.std.proofs.lemmas.Bool.{cases_lt, eq-eqb, not-false, both_ways}
use Rattle.std.proofs.Math.Dec.{eqb-suc-zero}
use Rattle.std.proofs.lemmas.Nat.Bits.{bit_at-zero, bit_at-trailing_zeros}
use Rattle.std.proofs.lemmas.Simd.{trailing_mask_l, Each1-get_or}
use Rattle.lane_rows.specs.Words.{row_of}
use Rattle.lane_rows.specs.Least.{IsLeastOf}
use Rattle.lane_rows.proofs.Bits.{is_set, contains-row_of, row_of-is}

-- whether a lane has a bit that is set
abbrev pub is_some_lane : ℕ → Bool
is_some_lane x = not (eqb x 0)

-- the lanes that have a bit
abbrev pub lane_mask : List ℕ → ℕ
lane_mask words = mask_l (map is_some_lane words)

one_lane : (word : ℕ) → cond {A = ℕ} (is_some_lane (suc word)) 1 0 ≡ suc zero
one_lane word = ap (λ b. cond {A = ℕ} (not b) 1 0) (eqb-suc-zero word)

zero_lanes : (words : List ℕ) → lane_mask words ≡ 0 → (l : ℕ) → get_or words l 0 ≡ zero
zero_lanes [] none l = refl
zero_lanes (zero ∷ words) none zero = refl
zero_lanes (zero ∷ words) none (suc l) = zero_lanes words (omega arith) l
zero_lanes (suc word ∷ words) none l = absurd (omega (arith, one_lane word))

-- no lane has a bit just where the set is empty
pub row_of-no_lane : (words : List ℕ) → lane_mask words ≡ 0 → row_of words ≡ set.empty
row_of-no_lane words none =
    row_of-is words set.empty (λ q.
    ap (λ w. is_set w (q % 64)) (zero_lanes words none (q / 64))
    ∙ ap (λ b. b == 1) (bit_at-zero (q % 64))
    ∙ sym (set.contains-empty nat_cmp q))

-- lane by lane, 0 up to the first that has a bit
record IsFirstLane (words : List ℕ) (lane : ℕ) : Type 0 where
  within : lane < length words
  has_bit : 0 < get_or words lane 0
  zero_below : (l : ℕ) → l < lane → get_or words l 0 ≡ zero

first_lane_cons : (words : List ℕ) (lane : ℕ) → IsFirstLane words lane → IsFirstLane (zero ∷ words) (suc lane)
first_lane_cons words lane h = record {
  within = omega (arith, h.within);
  has_bit = h.has_bit;
  zero_below = λ l. below l;
} where
  below : (l : ℕ) → l < suc lane → get_or (zero ∷ words) l 0 ≡ zero
  below zero lt = refl
  below (suc l) lt = h.zero_below l (omega arith)

first_lane_prefix : (words : List ℕ) → 0 < lane_mask words
    → IsFirstLane words (prefix_len (λ x. not (is_some_lane x)) words)
first_lane_prefix [] some = absurd (omega arith)
first_lane_prefix (zero ∷ words) some =
    subst (IsFirstLane (zero ∷ words)) (omega arith) (first_lane_cons words _ (first_lane_prefix words (omega arith)))
first_lane_prefix (suc word ∷ words) some =
    let none : prefix_len (λ x. not (is_some_lane x)) (suc word ∷ words) ≡ 0 =
    ap (λ b. cond (not (not b)) (1 + prefix_len (λ x. not (is_some_lane x)) words) 0) (eqb-suc-zero word) in
    subst (IsFirstLane (suc word ∷ words)) (sym none) (record {
      within = omega arith;
      has_bit = omega arith;
      zero_below = λ l lt. absurd (omega arith);
    })

-- the lowest bit of the first lane is the least number
least_of_first_lane : (words : List ℕ) (lane : ℕ) → length words ≡ 32 → Each1 (Fits w64) words → IsFirstLane words lane
    → IsLeastOf (row_of words) (64 * lane + trailing_zeros w64 (get_or words lane 0))
least_of_first_lane words lane long fits first =
    let word = get_or words lane 0 in
    let bit = trailing_zeros w64 word in
    let lowest =
    bit_at-trailing_zeros w64 word first.has_bit (Each1-get_or (Fits w64) words lane 0 first.within fits).fits in
    let lane_is : (64 * lane + bit) / 64 ≡ lane = omega (arith, lowest.0) in
    let bit_is : (64 * lane + bit) % 64 ≡ bit = omega (arith, lowest.0) in
    record {
      within = omega (arith, lowest.0, first.within);
      is_in =
          contains-row_of words (64 * lane + bit)
          ∙ ap₂ (λ l i. is_set (get_or words l 0) i) lane_is bit_is
          ∙ eq-eqb (bit_at word bit) 1 lowest.1;
      none_below = λ q lt.
          contains-row_of words q
          ∙ elim (cases_lt (q / 64) lane) [
            | inl below ↦ ap (λ w. is_set w (q % 64)) (first.zero_below (q / 64) below)
                ∙ ap (λ b. b == 1) (bit_at-zero (q % 64))
            | inr at ↦
                let same : q / 64 ≡ lane = omega (arith, lowest.0) in
                ap (λ l. is_set (get_or words l 0) (q % 64)) same
                ∙ ap (λ b. b == 1) (lowest.2 (q % 64) (omega (arith, lowest.0)))
          ];
    }

positive : (n : ℕ) → (n ≡ 0 → ⊥) → 0 < n
positive zero h = absurd (h refl)
positive (suc n) h = omega arith

-- the lowest bit of the mask is the first lane, whose lowest bit is the least number
pub least_by_mask : (words : List ℕ) (mask : ℕ) → length words ≡ 32 → Each1 (Fits w64) words → mask ≡ lane_mask words
    → (mask ≡ 0 → ⊥)
    → (trailing_zeros w64 mask < 32)
    × IsLeastOf (row_of words)
    (64 * trailing_zeros w64 mask + trailing_zeros w64 (get_or words (trailing_zeros w64 mask) 0))
least_by_mask words mask long fits is some =
    let some_lane : 0 < lane_mask words = positive (lane_mask words) (λ none. some (is ∙ none)) in
    let lane : trailing_zeros w64 mask ≡ prefix_len (λ x. not (is_some_lane x)) words =
    ap (trailing_zeros w64) is ∙ trailing_mask_l is_some_lane 64 words (omega arith) some_lane in
    let first = subst (IsFirstLane words) (sym lane) (first_lane_prefix words some_lane) in
    (omega (arith, first.within, long), least_of_first_lane words (trailing_zeros w64 mask) long fits first)

-- a set with a least number is not empty
pub not_empty : (s : set.FinSet nat_cmp) (least : ℕ) → IsLeastOf s least → s ≡ set.empty → true ≡ false
not_empty s least h none = sym h.is_in ∙ ap (λ t. set.contains t least) none ∙ set.contains-empty nat_cmp least

difference-of_subset : (s t : set.FinSet nat_cmp) → set.is_subset s t ≡ true → set.difference s t ≡ set.empty
difference-of_subset s t h =
    set.same_set nat_cmp_total set.nat_cmp-IsAntisymmetric (set.difference s t) set.empty (λ q.
    set.contains-difference nat_cmp_total s t q
    ∙ left_alone (set.contains s q) (set.contains t q) (set.is_subset-contains nat_cmp_total s t h q)
    ∙ sym (set.contains-empty nat_cmp q))
  where
    left_alone : (a b : Bool) → (a ≡ true → b ≡ true) → (a && not b) ≡ false
    left_alone true b h = ap not (h refl)
    left_alone false b h = refl

subset-of_difference : (s t : set.FinSet nat_cmp) → set.difference s t ≡ set.empty → set.is_subset s t ≡ true
subset-of_difference s t h =
    set.contains-is_subset nat_cmp_total s t (λ q one.
    among (set.contains s q) (set.contains t q) one
    (sym (set.contains-difference nat_cmp_total s t q) ∙ ap (λ u. set.contains u q) h ∙ set.contains-empty nat_cmp q))
  where
    among : (a b : Bool) → a ≡ true → (a && not b) ≡ false → b ≡ true
    among true b e h = not-false b h
    among false b e h = absurd (both_ways false refl e)

-- a test that tells whether nothing is left tells whether one set is in the other
pub tells_subset : (none : Bool) (s t : set.FinSet nat_cmp) → (none ≡ true → set.difference s t ≡ set.empty)
    → (set.difference s t ≡ set.empty → none ≡ true) → none ≡ set.is_subset s t
tells_subset true s t to from = sym (subset-of_difference s t (to refl))
tells_subset false s t to from =
    elim (set.is_subset s t) as (λ b. set.is_subset s t ≡ b → false ≡ b) [
      | true ↦ λ e. from (difference-of_subset s t e)
      | false ↦ λ e. refl
    ] refl
