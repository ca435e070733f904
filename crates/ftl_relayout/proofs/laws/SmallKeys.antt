-- The digits of keys are small, by a schedule that was accepted and by the limits of grammars and trees.
use Rattle.std.proofs.Common.{◌≡◌, ℕ, zero, suc, ◌+◌, ◌<◌, ◌≤◌, ◌==◌, Bool, true, false, if◌then◌else◌, cond, ltb, ltb-true, ltb-false, refl, sym, subst, arith, eq-eqb, List, [], ◌∷◌, length, get_or, flat_map, count_by, Contains, length-append}
use Rattle.std.proofs.lemmas.List.Sums.{sum_by-cons}
use Rattle.ftl_deps.specs.reads.Meant.{meant}
use Rattle.ftl_step_value.specs.limits.reads.ReadTables.{IsSound}
use Rattle.ftl_meaning.specs.faults.Checked.{CheckedGrammar}
use Rattle.ftl_model.proofs.lists.Elements.{here_in, later_in}
use Rattle.ftl_model.proofs.lists.Listed.{counted_in}
use Rattle.ftl_model.specs.layout.AttributeGrammar.{AttributeGrammar}
use Rattle.ftl_model.specs.layout.Tree.{Forest, size}
use Rattle.ftl_model.specs.lists.Lists.{place_in}
use Rattle.ftl_order.specs.faults.FaultLaws.{AreComputed}
use Rattle.ftl_order.specs.orders.Ordered.{IsOrdered}
use Rattle.ftl_order.specs.orders.Schedule.{EachStandsOnce, Pass, Schedule, empty_pass, entries, has_entry, pass_in_stage, placing_of, stage_of}
use Rattle.ftl_relayout.specs.laws.TreeNets.{HasSmallKeys}
use Rattle.ftl_schedule.proofs.stages.FewPasses.{few_stages}
use Rattle.ftl_schedule.specs.check.AcceptedSchedule.{IsAccepted}
use Rattle.ftl_schedule.specs.declared.stages.types.Schedule as declared
use Rattle.ftl_schedule.specs.stages.PassLimits.{IsWithinPassLimits}
use Rattle.ftl_schedule.specs.stages.Stages.{stages_of}

few_before : (s : Schedule) (a : ℕ) → stage_of s a ≤ length s
few_before [] a = omega arith
few_before (passes ∷ stages) a = by_test (has_entry passes a) (few_before stages a)
  where
    by_test : (b : Bool) → stage_of stages a ≤ length stages
        → (if b then 0 else suc (stage_of stages a)) ≤ suc (length stages)
    by_test true few = omega arith
    by_test false few = omega (arith, few)

place_few : (xs : List ℕ) (x : ℕ) → place_in xs x ≤ length xs
place_few [] x = omega arith
place_few (y ∷ ys) x = by_test (x == y) (place_few ys x)
  where
    by_test : (b : Bool) → place_in ys x ≤ length ys → (if b then 0 else suc (place_in ys x)) ≤ suc (length ys)
    by_test true few = omega arith
    by_test false few = omega (arith, few)

-- one part is no longer than all
part_few : {X : Type 0} (f : X → List ℕ) (xs : List X) (i : ℕ) (d : X) → length (f d) ≡ 0
    → length (f (get_or xs i d)) ≤ length (flat_map f xs)
part_few f [] zero d none = omega (arith, none)
part_few f [] (suc i) d none = omega (arith, none)
part_few f (x ∷ xs) zero d none = let all = length-append (f x) (flat_map f xs) in omega (arith, all)
part_few f (x ∷ xs) (suc i) d none =
    let all = length-append (f x) (flat_map f xs) in
    let rest = part_few f xs i d none in
    omega (arith, all, rest)

-- ---- entries

abbrev count : List ℕ → ℕ → ℕ
count xs a = count_by (λ b. b == a) xs

abbrev below : ℕ → List ℕ → ℕ
below n xs = count_by (λ b. ltb b n) xs

none_below : (xs : List ℕ) → below 0 xs ≡ 0
none_below [] = refl
none_below (x ∷ xs) =
    let all = sum_by-cons (λ b. cond (ltb b 0) 1 0) x xs in
    let rest = none_below xs in
    by_test (ltb x 0) refl rest all
  where
    by_test : (b : Bool) → ltb x 0 ≡ b → below 0 xs ≡ 0 → below 0 (x ∷ xs) ≡ cond b 1 0 + below 0 xs
        → below 0 (x ∷ xs) ≡ 0
    by_test true e rest all = absurd (let less = ltb-true x 0 e in let z : ⊥ = omega (arith, less) in z)
    by_test false e rest all = omega (arith, rest, all)

one_more : (m x : ℕ) → cond (ltb x (suc m)) 1 0 ≤ cond (ltb x m) 1 0 + cond (x == m) 1 0
one_more m x = by_test (ltb x m) refl
  where
    first : (b : Bool) → cond b 1 0 ≤ 1
    first true = omega arith
    first false = omega arith

    at : x ≡ m → (b : Bool) → cond b 1 0 ≤ cond (x == m) 1 0
    at e b = subst (λ t. cond b 1 0 ≤ cond t 1 0) (sym (eq-eqb x m e)) (first b)

    later : (b : Bool) → ltb x (suc m) ≡ b → ltb x m ≡ false → cond b 1 0 ≤ 0 + cond (x == m) 1 0
    later true f e =
        let less = ltb-true x (suc m) f in
        let high = ltb-false x m e in
        let is : x ≡ m = omega (arith, less, high) in
        let z = at is true in
        omega (arith, z)
    later false f e = omega arith

    by_test : (b : Bool) → ltb x m ≡ b → cond (ltb x (suc m)) 1 0 ≤ cond b 1 0 + cond (x == m) 1 0
    by_test true e = let z = first (ltb x (suc m)) in omega (arith, z)
    by_test false e = later (ltb x (suc m)) refl e

more_below : (m : ℕ) (xs : List ℕ) → below (suc m) xs ≤ below m xs + count xs m
more_below m [] = omega arith
more_below m (x ∷ xs) =
    let all = sum_by-cons (λ b. cond (ltb b (suc m)) 1 0) x xs in
    let low = sum_by-cons (λ b. cond (ltb b m) 1 0) x xs in
    let here = sum_by-cons (λ b. cond (b == m) 1 0) x xs in
    let one = one_more m x in
    let rest = more_below m xs in
    omega (arith, all, low, here, one, rest)

few_below : (n : ℕ) (xs : List ℕ) → ((a : ℕ) → count xs a ≤ 1) → below n xs ≤ n
few_below zero xs once = let none = none_below xs in omega (arith, none)
few_below (suc m) xs once =
    let more = more_below m xs in
    let rest = few_below m xs once in
    let one = once m in
    omega (arith, more, rest, one)

all_below : (n : ℕ) (xs : List ℕ) → ((a : ℕ) → Contains xs a → a < n) → length xs ≤ below n xs
all_below n [] low = omega arith
all_below n (x ∷ xs) low =
    by_test (ltb x n) refl (sum_by-cons (λ b. cond (ltb b n) 1 0) x xs)
    (all_below n xs (λ a there. low a (later_in x a xs there)))
  where
    by_test : (b : Bool) → ltb x n ≡ b → below n (x ∷ xs) ≡ cond b 1 0 + below n xs → length xs ≤ below n xs
        → suc (length xs) ≤ below n (x ∷ xs)
    by_test true e all rest = omega (arith, all, rest)
    by_test false e all rest =
        absurd (let high = ltb-false x n e in let less = low x (here_in x xs) in let z : ⊥ = omega (arith, high, less) in z)

-- computed attributes that stand once are no more than the attributes
few_entries : (g : AttributeGrammar) (s : Schedule) → AreComputed g s → EachStandsOnce g s
    → length (entries s) ≤ g.attribute_count
few_entries g s computed once =
    let all = all_below g.attribute_count (entries s) (λ a there. (computed a there).0) in
    let few = few_below g.attribute_count (entries s) (λ a. by_test a (ltb 0 (count (entries s) a)) refl) in
    omega (arith, all, few)
  where
    by_test : (a : ℕ) (b : Bool) → ltb 0 (count (entries s) a) ≡ b → count (entries s) a ≤ 1
    by_test a true e =
        let is = computed a (counted_in (entries s) a (ltb-true 0 (count (entries s) a) e)) in
        let one = once a is.0 is.1 in
        omega (arith, one)
    by_test a false e = let none = ltb-false 0 (count (entries s) a) e in omega (arith, none)

-- ---- places

few_in_stage : (s : Schedule) (stage : ℕ) (pass : ℕ)
    → length (get_or (get_or s stage []) pass empty_pass).attributes ≤ length (entries s)
few_in_stage s stage pass =
    let inner = part_few (λ (p : Pass). p.attributes) (get_or s stage []) pass empty_pass refl in
    let outer = part_few (λ (ps : List Pass). flat_map (λ (p : Pass). p.attributes) ps) s stage [] refl in
    omega (arith, inner, outer)

few_places : (g : AttributeGrammar) (s : Schedule) → AreComputed g s → EachStandsOnce g s → (a : ℕ)
    → (placing_of s a).index ≤ g.attribute_count
few_places g s computed once a =
    let list = (get_or (get_or s (stage_of s a) []) (pass_in_stage s a) empty_pass).attributes in
    let place : place_in list a ≤ length list = place_few list a in
    let within : length list ≤ length (entries s) = few_in_stage s (stage_of s a) (pass_in_stage s a) in
    let all = few_entries g s computed once in
    omega (arith, place, within, all)

-- by what an accepted schedule says of itself
pub schedule_small_keys : (g : AttributeGrammar) (s : Schedule) (t : Forest) → AreComputed g s → IsWithinPassLimits s
    → IsOrdered g s → g.attribute_count ≤ 2048 → size t ≤ 1048576 → HasSmallKeys g (placing_of s) t
schedule_small_keys g s t computed limits ordered few small = record {
  nodes = small;
  attributes = few;
  stages = λ a.
      let before = few_before s a in
      let all = few_stages s limits in
      omega (arith, before, all);
  places = λ a. let place = few_places g s computed ordered.once a in omega (arith, place, few);
}

-- of a schedule that was accepted for a grammar within the limits
pub small_keys : (c : CheckedGrammar) (s : declared.Schedule) (t : Forest) → IsAccepted c s → IsSound (meant c)
    → size t ≤ 1048576 → HasSmallKeys (meant c) (placing_of (stages_of s)) t
small_keys c s t accepted sound small =
    schedule_small_keys (meant c) (stages_of s) t accepted.computed accepted.limits accepted.ordered
    sound.limits.attributes small
