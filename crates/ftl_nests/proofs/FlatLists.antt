-- Which stages and passes list an attribute, once nests are gone.
use Rattle.std.proofs.Common.{◌≡◌, ℕ, suc, Bool, true, false, ◌==◌, if◌then◌else◌, refl, sym, ◌∙◌, ap, ap₂, arith, List, [], ◌∷◌, ◌++◌, flat_map}
use Rattle.ftl_model.specs.lists.Lists.{is_listed, place_in}
use Rattle.ftl_order.specs.orders.Schedule.{PassKind, topdown, bottomup, inorder, Pass, Schedule, entries, pass_of, has_entry, stage_of}
use Rattle.ftl_nests.specs.Nests.{NestingPass, NestingSchedule, inner_stages, whole_pass, whole_stage, outer_schedule}
use Rattle.ftl_nests.specs.Flat.{alone_stage, each_alone, own_stage, flat_by, flat_pass, flat_stage, flat_schedule}
use Rattle.ftl_nests.proofs.JoinedSchedules.{lists, lists-append, first_with}

abbrev pub either : Bool → Bool → Bool
either b c = if b then true else c

pub is_listed-append : (xs ys : List ℕ) (a : ℕ) → is_listed (xs ++ ys) a ≡ either (is_listed xs a) (is_listed ys a)
is_listed-append [] ys a = refl
is_listed-append (x ∷ xs) ys a =
    elim (a == x) as (λ b. either b (is_listed (xs ++ ys) a) ≡ either (either b (is_listed xs a)) (is_listed ys a))
    [ true ↦ refl | false ↦ is_listed-append xs ys a ]

stage_entries : (passes : List Pass) (a : ℕ)
    → is_listed (flat_map (λ (pass : Pass). pass.attributes) passes) a ≡ has_entry passes a
stage_entries [] a = refl
stage_entries (pass ∷ passes) a =
    is_listed-append pass.attributes (flat_map (λ (p : Pass). p.attributes) passes) a
    ∙ ap (either (is_listed pass.attributes a)) (stage_entries passes a)

pub listed-entries : (s : Schedule) (a : ℕ) → is_listed (entries s) a ≡ lists s a
listed-entries [] a = refl
listed-entries (passes ∷ s) a =
    is_listed-append (flat_map (λ (p : Pass). p.attributes) passes) (entries s) a
    ∙ ap₂ either (stage_entries passes a) (listed-entries s a)

pub lists-alone : (passes : List Pass) (a : ℕ) → lists (alone_stage passes) a ≡ has_entry passes a
lists-alone [] a = refl
lists-alone (pass ∷ passes) a =
    elim (is_listed pass.attributes a) as
    (λ b. either (either b false) (lists (alone_stage passes) a) ≡ either b (has_entry passes a))
    [ true ↦ refl | false ↦ lists-alone passes a ]

pub lists-each_alone : (s : Schedule) (a : ℕ) → lists (each_alone s) a ≡ lists s a
lists-each_alone [] a = refl
lists-each_alone (passes ∷ s) a =
    lists-append (alone_stage passes) (each_alone s) a
    ∙ ap₂ either (lists-alone passes a) (lists-each_alone s a)

pub lists-own : (pass : NestingPass) (a : ℕ) → lists (own_stage pass) a ≡ is_listed pass.attributes a
lists-own pass a =
    elim (is_listed pass.attributes a) as (λ b. either (either b false) false ≡ b) [ true ↦ refl | false ↦ refl ]

either_turned : (b c : Bool) → either c b ≡ either b c
either_turned true true = refl
either_turned true false = refl
either_turned false true = refl
either_turned false false = refl

lists-flat_by : (kind : PassKind) (pass : NestingPass) (a : ℕ)
    → lists (flat_by kind pass) a ≡ is_listed (pass.attributes ++ entries (inner_stages pass.nest)) a
lists-flat_by topdown pass a =
    lists-append (own_stage pass) (each_alone (inner_stages pass.nest)) a
    ∙ ap₂ either (lists-own pass a)
    (lists-each_alone (inner_stages pass.nest) a ∙ sym (listed-entries (inner_stages pass.nest) a))
    ∙ sym (is_listed-append pass.attributes (entries (inner_stages pass.nest)) a)
lists-flat_by bottomup pass a =
    lists-append (each_alone (inner_stages pass.nest)) (own_stage pass) a
    ∙ ap₂ either
    (lists-each_alone (inner_stages pass.nest) a ∙ sym (listed-entries (inner_stages pass.nest) a))
    (lists-own pass a)
    ∙ either_turned (is_listed pass.attributes a) (is_listed (entries (inner_stages pass.nest)) a)
    ∙ sym (is_listed-append pass.attributes (entries (inner_stages pass.nest)) a)
lists-flat_by inorder pass a =
    lists-append (own_stage pass) (each_alone (inner_stages pass.nest)) a
    ∙ ap₂ either (lists-own pass a)
    (lists-each_alone (inner_stages pass.nest) a ∙ sym (listed-entries (inner_stages pass.nest) a))
    ∙ sym (is_listed-append pass.attributes (entries (inner_stages pass.nest)) a)

pub lists-flat_pass : (pass : NestingPass) (a : ℕ) → lists (flat_pass pass) a ≡ is_listed (whole_pass pass).attributes a
lists-flat_pass pass a = lists-flat_by pass.kind pass a

pub lists-flat_stage : (passes : List NestingPass) (a : ℕ)
    → lists (flat_stage passes) a ≡ has_entry (whole_stage passes) a
lists-flat_stage [] a = refl
lists-flat_stage (pass ∷ passes) a =
    lists-append (flat_pass pass) (flat_stage passes) a
    ∙ ap₂ either (lists-flat_pass pass a) (lists-flat_stage passes a)

pub lists-flat : (s : NestingSchedule) (a : ℕ) → lists (flat_schedule s) a ≡ lists (outer_schedule s) a
lists-flat [] a = refl
lists-flat (passes ∷ s) a =
    lists-append (flat_stage passes) (flat_schedule s) a
    ∙ ap₂ either (lists-flat_stage passes a) (lists-flat s a)

-- the first that lists it is that of the outer schedule, or of the inner one
pub first_stage : (s : NestingSchedule) (a : ℕ)
    → first_with (λ passes. lists (flat_stage passes) a) s ≡ stage_of (outer_schedule s) a
first_stage [] a = refl
first_stage (passes ∷ s) a =
    ap₂ (λ b n. if b then 0 else suc n) (lists-flat_stage passes a) (first_stage s a)

pub first_pass : (passes : List NestingPass) (a : ℕ)
    → first_with (λ pass. lists (flat_pass pass) a) passes ≡ pass_of (whole_stage passes) a
first_pass [] a = refl
first_pass (pass ∷ passes) a = ap₂ (λ b n. if b then 0 else suc n) (lists-flat_pass pass a) (first_pass passes a)

pub first_inner : (s : Schedule) (a : ℕ)
    → first_with (λ passes. lists (alone_stage passes) a) s ≡ stage_of s a
first_inner [] a = refl
first_inner (passes ∷ s) a = ap₂ (λ b n. if b then 0 else suc n) (lists-alone passes a) (first_inner s a)

-- in joined lists, one that the first lists has its place there
pub place-append : (xs ys : List ℕ) (a : ℕ) → is_listed xs a ≡ true → place_in (xs ++ ys) a ≡ place_in xs a
place-append [] ys a h = absurd (let z : ⊥ = grind arith in z)
place-append (x ∷ xs) ys a h =
    elim (a == x) as
    (λ b. either b (is_listed xs a) ≡ true
    → (if b then 0 else suc (place_in (xs ++ ys) a)) ≡ (if b then 0 else suc (place_in xs a)))
    [ true ↦ λ h. refl | false ↦ λ h. ap suc (place-append xs ys a h) ]
    h
