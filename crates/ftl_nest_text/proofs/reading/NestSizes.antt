-- How many passes the stages of a schedule with nests have, beside the limits.
use Rattle.std.proofs.Common.{◌≡◌, ℕ, ◌+◌, ◌≤◌, Bool, true, false, cond, nat_lt, List, [], ◌∷◌, ◌++◌, length, map, flat_map}
use Rattle.std.proofs.Common.{Some, None, refl, sym, subst, arith}
use Rattle.std.specs.List.{All, AllByRecursion, sum_by}
use Rattle.std.proofs.lemmas.Bool.{ltb-false, ltb-true}
use Rattle.std.proofs.lemmas.List.Elements.{All-cons, All-head, All-nil, All-tail}
use Rattle.std.proofs.lemmas.List.Sums.{sum_by-cons}
use Rattle.ftl_order.specs.orders.Schedule as order
use Rattle.ftl_schedule.specs.declared.names.fault.ScheduleFault.TheVariants.{TooManyBeside, TooManyPasses}
use Rattle.ftl_schedule.specs.stages.PassLimits.{HasFewPasses}
use Rattle.ftl_nests.specs.Nests.{NestingPass, NestingSchedule, inner_stages}
use Rattle.ftl_nest_check.specs.stages.Nested.{HasFewNestingPasses, IsWithinNestLimits, passes_with}
use Rattle.ftl_nest_text.specs.reading.NestLimits.{beside_in, pass_total, sizes_fault}
use Rattle.ftl_nest_text.proofs.reading.NestCounted.{total_append}

-- ---- sizes of a schedule by number

abbrev pub stages_in : order.Schedule → List ℕ
stages_in stages = map (λ (ps : List order.Pass). length ps) stages

abbrev pub inner_in : List NestingPass → List ℕ
inner_in passes = flat_map (λ (p : NestingPass). stages_in (inner_stages p.nest)) passes

abbrev pub sizes_in : NestingSchedule → List ℕ
sizes_in s = flat_map (λ (passes : List NestingPass). length passes ∷ inner_in passes) s

-- ---- all sizes are from 1 to 4

abbrev pub IsSize : ℕ → Type 0
IsSize n = (1 ≤ n) × (n ≤ 4)

pub both_parts : (P : ℕ → Type 0) (ns ms : List ℕ) → AllByRecursion P (ns ++ ms)
    → AllByRecursion P ns × AllByRecursion P ms
both_parts P [] ms all = (tt, all)
both_parts P (n ∷ ns) ms all = let rest = both_parts P ns ms all.1 in ((all.0, rest.0), rest.1)

pub from_parts : (P : ℕ → Type 0) (ns ms : List ℕ) → AllByRecursion P ns → AllByRecursion P ms
    → AllByRecursion P (ns ++ ms)
from_parts P [] ms here later = later
from_parts P (n ∷ ns) ms here later = (here.0, from_parts P ns ms here.1 later)

pub both_hold : (ns : List ℕ) → AllByRecursion (λ n. 1 ≤ n) ns → AllByRecursion (λ n. n ≤ 4) ns
    → AllByRecursion IsSize ns
both_hold [] some few = tt
both_hold (n ∷ ns) some few = ((some.0, few.0), both_hold ns some.1 few.1)

pub few_of : (ns : List ℕ) → AllByRecursion IsSize ns → AllByRecursion (λ n. n ≤ 4) ns
few_of [] all = tt
few_of (n ∷ ns) all = (all.0.1, few_of ns all.1)

-- ---- the fault of sizes

pub beside_few : (k : ℕ) (ns : List ℕ) → beside_in k ns ≡ None → AllByRecursion (λ n. n ≤ 4) ns
beside_few k [] e = tt
beside_few k (n ∷ ns) e = by_test (nat_lt 4 n) refl (λ rest. beside_few (k + 1) ns rest) e
  where
    by_test : (b : Bool) → nat_lt 4 n ≡ b → (beside_in (k + 1) ns ≡ None → AllByRecursion (λ m. m ≤ 4) ns)
        → cond b (Some (TooManyBeside k n)) (beside_in (k + 1) ns) ≡ None → AllByRecursion (λ m. m ≤ 4) (n ∷ ns)
    by_test true is later e = absurd (cc e)
    by_test false is later e = (ltb-false 4 n is, later e)

pub few_beside : (k : ℕ) (ns : List ℕ) → AllByRecursion (λ n. n ≤ 4) ns → beside_in k ns ≡ None
few_beside k [] few = refl
few_beside k (n ∷ ns) few = by_test (nat_lt 4 n) refl (few_beside (k + 1) ns few.1)
  where
    by_test : (b : Bool) → nat_lt 4 n ≡ b → beside_in (k + 1) ns ≡ None
        → cond b (Some (TooManyBeside k n)) (beside_in (k + 1) ns) ≡ None
    by_test true is rest =
        let many = ltb-true 4 n is in
        let here = few.0 in
        absurd (let z : ⊥ = omega (arith, many, here) in z)
    by_test false is rest = rest

pub faultless_sizes : (ns : List ℕ) → sizes_fault ns ≡ None → (pass_total ns ≤ 2048) × AllByRecursion (λ n. n ≤ 4) ns
faultless_sizes ns e = by_test (nat_lt 2048 (pass_total ns)) refl e
  where
    by_test : (b : Bool) → nat_lt 2048 (pass_total ns) ≡ b → cond b (Some (TooManyPasses (pass_total ns))) (beside_in 1 ns) ≡ None
        → (pass_total ns ≤ 2048) × AllByRecursion (λ n. n ≤ 4) ns
    by_test true is e = absurd (cc e)
    by_test false is e = (ltb-false 2048 (pass_total ns) is, beside_few 1 ns e)

pub sizes_faultless : (ns : List ℕ) → pass_total ns ≤ 2048 → AllByRecursion (λ n. n ≤ 4) ns → sizes_fault ns ≡ None
sizes_faultless ns all few = by_test (nat_lt 2048 (pass_total ns)) refl
  where
    by_test : (b : Bool) → nat_lt 2048 (pass_total ns) ≡ b → cond b (Some (TooManyPasses (pass_total ns))) (beside_in 1 ns) ≡ None
    by_test true is =
        let many = ltb-true 2048 (pass_total ns) is in absurd (let z : ⊥ = omega (arith, many, all) in z)
    by_test false is = few_beside 1 ns few

-- ---- sizes and limits

sum_stages : (stages : order.Schedule) → pass_total (stages_in stages) ≡ sum_by length stages
sum_stages [] = refl
sum_stages (ps ∷ stages) =
    let rest = sum_stages stages in
    omega (arith, sum_by-cons length ps stages, rest)

sum_passes : (passes : List NestingPass) → length passes + pass_total (inner_in passes) ≡ sum_by passes_with passes
sum_passes [] = refl
sum_passes (p ∷ passes) =
    let rest = sum_passes passes in
    let inner = sum_stages (inner_stages p.nest) in
    omega (arith, total_append (stages_in (inner_stages p.nest)) (inner_in passes), sum_by-cons passes_with p passes, rest, inner)

sum_sizes : (s : NestingSchedule) → pass_total (sizes_in s) ≡ sum_by (sum_by passes_with) s
sum_sizes [] = refl
sum_sizes (passes ∷ s) =
    let rest = sum_sizes s in
    let here = sum_passes passes in
    omega (
      arith,
      total_append (length passes ∷ inner_in passes) (sizes_in s),
      sum_by-cons (sum_by passes_with) passes s,
      rest,
      here,
    )

few_stages : (stages : order.Schedule) → AllByRecursion IsSize (stages_in stages) → All HasFewPasses stages
few_stages [] sizes = All-nil HasFewPasses
few_stages (ps ∷ stages) sizes =
    All-cons HasFewPasses ps stages (record { some = sizes.0.0; few = sizes.0.1 }) (few_stages stages sizes.1)

stages_few : (stages : order.Schedule) → All HasFewPasses stages → AllByRecursion IsSize (stages_in stages)
stages_few [] few = tt
stages_few (ps ∷ stages) few =
    let here = All-head HasFewPasses ps stages few in
    ((here.some, here.few), stages_few stages (All-tail HasFewPasses ps stages few))

abbrev HasFewInner : NestingPass → Type 0
HasFewInner pass = All HasFewPasses (inner_stages pass.nest)

few_inner : (passes : List NestingPass) → AllByRecursion IsSize (inner_in passes) → All HasFewInner passes
few_inner [] sizes = All-nil HasFewInner
few_inner (p ∷ passes) sizes =
    let both = both_parts IsSize (stages_in (inner_stages p.nest)) (inner_in passes) sizes in
    All-cons HasFewInner p passes (few_stages (inner_stages p.nest) both.0) (few_inner passes both.1)

inner_few : (passes : List NestingPass) → All HasFewInner passes → AllByRecursion IsSize (inner_in passes)
inner_few [] few = tt
inner_few (p ∷ passes) few =
    from_parts IsSize (stages_in (inner_stages p.nest)) (inner_in passes)
    (stages_few (inner_stages p.nest) (All-head HasFewInner p passes few))
    (inner_few passes (All-tail HasFewInner p passes few))

few_each : (s : NestingSchedule) → AllByRecursion IsSize (sizes_in s) → All HasFewNestingPasses s
few_each [] sizes = All-nil HasFewNestingPasses
few_each (passes ∷ s) sizes =
    let both = both_parts IsSize (length passes ∷ inner_in passes) (sizes_in s) sizes in
    All-cons HasFewNestingPasses passes s
    (record { some = both.0.0.0; few = both.0.0.1; inner = few_inner passes both.0.1 }) (few_each s both.1)

each_few : (s : NestingSchedule) → All HasFewNestingPasses s → AllByRecursion IsSize (sizes_in s)
each_few [] few = tt
each_few (passes ∷ s) few =
    let here = All-head HasFewNestingPasses passes s few in
    from_parts IsSize (length passes ∷ inner_in passes) (sizes_in s)
    ((here.some, here.few), inner_few passes here.inner) (each_few s (All-tail HasFewNestingPasses passes s few))

-- sizes from 1 to 4, 2048 in all, are those within the limits
pub limits_by_sizes : (s : NestingSchedule) → pass_total (sizes_in s) ≤ 2048 → AllByRecursion IsSize (sizes_in s)
    → IsWithinNestLimits s
limits_by_sizes s all sizes = record { all = subst (λ n. n ≤ 2048) (sum_sizes s) all; each = few_each s sizes }

pub sizes_by_limits : (s : NestingSchedule) → IsWithinNestLimits s
    → (pass_total (sizes_in s) ≤ 2048) × AllByRecursion IsSize (sizes_in s)
sizes_by_limits s limits = (subst (λ n. n ≤ 2048) (sym (sum_sizes s)) limits.all, each_few s limits.each)
