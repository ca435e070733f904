-- Sums with one value more, and how great their parts are.
use Rattle.std.proofs.Common.{◌≡◌, ℕ, ◌+◌, ◌≤◌, List, [], ◌∷◌, ◌++◌, length, filter, ℤ, pos, negsuc, ◌+ℤ◌, ◌*ℤ◌}
use Rattle.std.proofs.Common.{length-append, sym, ◌∙◌, ap, arith}
use Rattle.std.proofs.lemmas.List.Elements.{filter-append}
use Rattle.std.specs.Int.RustNames.{unsigned_abs}
use Rattle.std.proofs.lemmas.Int.{ints}
use Rattle.ftl_model.specs.layout.Boxes.{is_overflow}
use Rattle.ftl_model.specs.layout.Values.{IsValue, Value, number, overflow}
use Rattle.ftl_answer.specs.answers.Summary.{mixed, number_or_zero, once, weighted_sum}
use Rattle.ftl_answer.specs.summary.Summed.{AreSumsOf}
use Rattle.ftl_answer.specs.declared.summary.sums.Sums.{Sums}

zero_last : (x y : ℤ) → x ≡ y → x +ℤ pos 0 ≡ pos 0 +ℤ y
zero_last x y e = omega (arith, ints, e)

regrouped : (a b c : ℤ) → a +ℤ (b +ℤ c) ≡ (a +ℤ b) +ℤ c
regrouped a b c = omega (arith, ints)

-- the value counts by its place, which is the last
pub weighted_more : (weight : ℕ → ℕ) (place : ℕ) (values : List Value) (v : Value)
    → weighted_sum weight place (values ++ (v ∷ []))
    ≡ weighted_sum weight place values +ℤ (number_or_zero v *ℤ pos (weight (place + length values)))
weighted_more weight place [] v =
    zero_last (number_or_zero v *ℤ pos (weight place)) (number_or_zero v *ℤ pos (weight (place + 0)))
    (ap (λ n. number_or_zero v *ℤ pos (weight n)) (let e : place ≡ place + 0 = omega arith in e))
weighted_more weight place (u ∷ values) v =
    let first = number_or_zero u *ℤ pos (weight place) in
    let e : (place + 1) + length values ≡ place + length (u ∷ values) = omega arith in
    ap (λ (s : ℤ). first +ℤ s) (weighted_more weight (place + 1) values v)
    ∙ regrouped first (weighted_sum weight (place + 1) values)
    (number_or_zero v *ℤ pos (weight ((place + 1) + length values)))
    ∙ ap (λ n. (first +ℤ weighted_sum weight (place + 1) values) +ℤ (number_or_zero v *ℤ pos (weight n))) e

-- the Overflows with one value more
overflows_more : (values : List Value) (v : Value)
    → length (filter is_overflow (values ++ (v ∷ [])))
    ≡ length (filter is_overflow values) + length (filter is_overflow (v ∷ []))
overflows_more values v =
    ap length (filter-append is_overflow values (v ∷ []))
    ∙ length-append (filter is_overflow values) (filter is_overflow (v ∷ []))

zero_times : (n : ℕ) → pos 0 *ℤ pos n ≡ pos 0
zero_times n = omega (arith, ints)

times_one : (n : ℤ) → n *ℤ pos 1 ≡ n
times_one n = omega (arith, ints)

-- the sums with one number more
pub number_added : (values : List Value) (sums after : Sums) (n : ℤ) → AreSumsOf values sums
    → after.shown ≡ sums.shown + 1 → after.overflows ≡ sums.overflows → after.sum ≡ sums.sum +ℤ n
    → after.mix ≡ sums.mix +ℤ (n *ℤ pos (mixed sums.shown)) → AreSumsOf (values ++ (number n ∷ [])) after
number_added values sums after n are shown overflows sum mix =
    let size = length-append values (number n ∷ []) in
    let before = are.shown in
    let over = are.overflows in
    let more = overflows_more values (number n) in
    let at : sums.shown ≡ 0 + length values = omega (arith, before) in
    record {
      shown = omega (arith, size, before, shown);
      overflows = omega (arith, more, over, overflows);
      sum =
          sum
          ∙ ap (λ (s : ℤ). s +ℤ n) are.sum
          ∙ ap (λ (m : ℤ). weighted_sum once 0 values +ℤ m) (sym (times_one n))
          ∙ sym (weighted_more once 0 values (number n));
      mix =
          mix
          ∙ ap (λ (s : ℤ). s +ℤ (n *ℤ pos (mixed sums.shown))) are.mix
          ∙ ap (λ k. weighted_sum mixed 0 values +ℤ (n *ℤ pos (mixed k))) at
          ∙ sym (weighted_more mixed 0 values (number n));
    }

no_part : (s m : ℤ) → m ≡ pos 0 → s ≡ s +ℤ m
no_part s m e = omega (arith, ints, e)

-- and with one Overflow more
pub overflow_added : (values : List Value) (sums after : Sums) → AreSumsOf values sums
    → after.shown ≡ sums.shown + 1 → after.overflows ≡ sums.overflows + 1 → after.sum ≡ sums.sum
    → after.mix ≡ sums.mix → AreSumsOf (values ++ (overflow ∷ [])) after
overflow_added values sums after are shown overflows sum mix =
    let size = length-append values (overflow ∷ []) in
    let before = are.shown in
    let over = are.overflows in
    let more = overflows_more values overflow in
    record {
      shown = omega (arith, size, before, shown);
      overflows = omega (arith, more, over, overflows);
      sum =
          sum
          ∙ are.sum
          ∙ no_part (weighted_sum once 0 values) (pos 0 *ℤ pos (once (0 + length values))) (zero_times (once (0 + length values)))
          ∙ sym (weighted_more once 0 values overflow);
      mix =
          mix
          ∙ are.mix
          ∙ no_part (weighted_sum mixed 0 values) (pos 0 *ℤ pos (mixed (0 + length values))) (zero_times (mixed (0 + length values)))
          ∙ sym (weighted_more mixed 0 values overflow);
    }

-- how far a number in range is from 0
pub abs_small : (n : ℤ) → IsValue (number n) → unsigned_abs n ≤ 140737488355328
abs_small (pos n) h = let high = h.1 in omega (arith, ints, high)
abs_small (negsuc n) h = let low = h.0 in omega (arith, ints, low)
