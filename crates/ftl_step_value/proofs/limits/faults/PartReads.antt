-- How much the parts of a rule read at most.
use Rattle.std.proofs.Common.{ℕ, zero, suc, ◌+◌, ◌*◌, ◌≤◌, List, [], ◌∷◌, flat_map, length, arith, length-append, suc-mul, mul-le-mul, mul_comm}
use Rattle.std.specs.List.{range_with_len}
use Rattle.ftl_step_value.specs.limits.faults.ReadBound.{IsNoLess, PartsWithin}
use Rattle.ftl_step_value.specs.declared.limits.faults.bound.RuleBound.{RuleBound}
use Rattle.ftl_model.specs.layout.AttributeGrammar.{Parts, Read, each_read, first_then, fold_over, kid_before, last_read, occurrences, plain, prev_read, read_occurrences, seen_by, self_read, single_read, this_read}

-- the parts are no fold
abbrev pub IsNoFold : Parts → Type 0
IsNoFold (plain reads) = Unit {0}
IsNoFold (first_then first later) = Unit {0}
IsNoFold (fold_over c start step) = ⊥

one_before : (c a n : ℕ) → length (kid_before c a n) ≤ 1
one_before c a zero = omega arith
one_before c a (suc n) = omega arith

-- a read is of one occurrence at most
one_of_read : (kids : ℕ → ℕ) (n : ℕ) (r : Read) → length (occurrences kids n r) ≤ 1
one_of_read kids n (self_read a) = omega arith
one_of_read kids n (single_read c a) = omega arith
one_of_read kids n (each_read c a) = omega arith
one_of_read kids n (this_read c a) = omega arith
one_of_read kids n (prev_read c a) = one_before c a n
one_of_read kids n (last_read c a) = one_before c a (kids c)

-- so reads are of no more than they are
few_seen : (kids : ℕ → ℕ) (n : ℕ) (rs : List Read) → length (seen_by kids n rs) ≤ length rs
few_seen kids n [] = omega arith
few_seen kids n (r ∷ rs) =
    let both = length-append (occurrences kids n r) (seen_by kids n rs) in
    let one = one_of_read kids n r in
    let rest = few_seen kids n rs in
    omega (arith, both, one, rest)

-- and at each kid
few_of_steps : (kids : ℕ → ℕ) (from m : ℕ) (rs : List Read)
    → length (flat_map (λ n. seen_by kids n rs) (range_with_len from m)) ≤ m * length rs
few_of_steps kids from zero rs = omega arith
few_of_steps kids from (suc m) rs =
    let both = length-append (seen_by kids from rs) (flat_map (λ n. seen_by kids n rs) (range_with_len (from + 1) m)) in
    let one = few_seen kids from rs in
    let rest = few_of_steps kids (from + 1) m rs in
    let more = suc-mul m (length rs) in
    omega (arith, both, one, rest, more)

module _ (b : RuleBound) (kids : ℕ → ℕ) (most : ℕ) (few : (c : ℕ) → kids c ≤ most) where
  pub reads_at_most : (parts : Parts) (n : ℕ) → PartsWithin b parts
      → length (read_occurrences parts kids n) ≤ b.once + b.each * most
  reads_at_most (plain reads) n low = let seen = few_seen kids n reads in omega (arith, seen, low)
  reads_at_most (first_then first later) zero low =
      let seen = few_seen kids 0 first in let l = low.0 in omega (arith, seen, l)
  reads_at_most (first_then first later) (suc n) low =
      let seen = few_seen kids (suc n) later in let l = low.1 in omega (arith, seen, l)
  reads_at_most (fold_over c start step) n low =
      let both = length-append (seen_by kids n start)
      (flat_map (λ m. seen_by kids m step) (range_with_len 0 (kids c))) in
      let begin = few_seen kids n start in
      let steps = few_of_steps kids 0 (kids c) step in
      let l = low.0 in
      let more : kids c * length step ≤ most * b.each = mul-le-mul (few c) low.1 in
      let turn = mul_comm most b.each in
      omega (arith, both, begin, steps, l, more, turn)

pub reads_once : (b : RuleBound) (kids : ℕ → ℕ) (parts : Parts) (n : ℕ) → PartsWithin b parts → IsNoFold parts
    → length (read_occurrences parts kids n) ≤ b.once
reads_once b kids (plain reads) n low single = let seen = few_seen kids n reads in omega (arith, seen, low)
reads_once b kids (first_then first later) zero low single =
    let seen = few_seen kids 0 first in let l = low.0 in omega (arith, seen, l)
reads_once b kids (first_then first later) (suc n) low single =
    let seen = few_seen kids (suc n) later in let l = low.1 in omega (arith, seen, l)
reads_once b kids (fold_over c start step) n low single = absurd single

-- what is within a bound is within one that is no less
pub parts_more : (less more : RuleBound) → IsNoLess less more → (parts : Parts) → PartsWithin less parts
    → PartsWithin more parts
parts_more less more up (plain reads) low = let o = up.once in omega (arith, low, o)
parts_more less more up (first_then first later) low =
    let o = up.once in let l = low.0 in let m = low.1 in (omega (arith, l, o), omega (arith, m, o))
parts_more less more up (fold_over child start step) low =
    let o = up.once in let e = up.each in let l = low.0 in let m = low.1 in (omega (arith, l, o), omega (arith, m, e))
