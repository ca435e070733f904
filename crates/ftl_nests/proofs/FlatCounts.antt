-- How often an attribute stands in the lists; the flat schedule has each as often as the one with nests.
use Rattle.std.proofs.Common.{◌≡◌, ℕ, zero, suc, ◌+◌, ◌<◌, ◌≤◌, Bool, true, false, ◌==◌, cond, if◌then◌else◌, refl, sym, ◌∙◌, ap, subst, arith, eqb-true, eq-eqb, List, [], ◌∷◌, ◌++◌, get_or, flat_map}
use Rattle.std.proofs.lemmas.List.Sums.{sum_by-cons}
use Rattle.std.proofs.lemmas.Grind.{flat_map-append}
use Rattle.ftl_model.specs.lists.Lists.{is_listed}
use Rattle.ftl_order.specs.orders.Schedule.{PassKind, topdown, bottomup, inorder, Pass, Schedule, entries}
use Rattle.ftl_items.proofs.stage_items.Passes.{many, many-append}
use Rattle.ftl_nests.specs.Nests.{NestingPass, NestingSchedule, inner_stages, whole_pass, whole_stage, outer_schedule, no_pass, nesting_pass}
use Rattle.ftl_nests.specs.Flat.{alone_stage, each_alone, own_stage, flat_by, flat_pass, flat_stage, flat_schedule}

pub times_listed : (a : ℕ) (xs : List ℕ) → is_listed xs a ≡ true → 0 < many a xs
times_listed a [] h = absurd (let z : ⊥ = grind arith in z)
times_listed a (x ∷ xs) h =
    subst (λ n. 0 < n) (sym (sum_by-cons (λ b. cond (b == a) 1 0) x xs))
    (elim (a == x) as
    (λ b. (a == x ≡ b) → (if b then true else is_listed xs a) ≡ true → 0 < cond (x == a) 1 0 + many a xs) [
      | true ↦ λ e h.
          let f = eq-eqb x a (sym (eqb-true a x e)) in
          subst (λ b. 0 < cond b 1 0 + many a xs) (sym f) (let z : 0 < 1 + many a xs = omega arith in z)
      | false ↦ λ e h. let i = times_listed a xs h in omega (arith, i)
    ]
    refl h)

abbrev stage_lists : List Pass → List ℕ
stage_lists passes = flat_map (λ (pass : Pass). pass.attributes) passes

at_stage : (a : ℕ) (passes : List NestingPass) (n : ℕ)
    → many a (whole_pass (get_or passes n no_pass)).attributes ≤ many a (stage_lists (whole_stage passes))
at_stage a [] n = omega arith
at_stage a (pass ∷ passes) zero =
    omega (arith, many-append a (whole_pass pass).attributes (stage_lists (whole_stage passes)))
at_stage a (pass ∷ passes) (suc n) =
    omega (arith, at_stage a passes n, many-append a (whole_pass pass).attributes (stage_lists (whole_stage passes)))

at_stages : (a : ℕ) (s : NestingSchedule) (m : ℕ)
    → many a (stage_lists (whole_stage (get_or s m []))) ≤ many a (entries (outer_schedule s))
at_stages a [] m = omega arith
at_stages a (passes ∷ s) zero =
    omega (arith, many-append a (stage_lists (whole_stage passes)) (entries (outer_schedule s)))
at_stages a (passes ∷ s) (suc m) =
    omega (arith, at_stages a s m, many-append a (stage_lists (whole_stage passes)) (entries (outer_schedule s)))

-- in one pass no more often than in the whole schedule
pub at_most_all : (a : ℕ) (s : NestingSchedule) (m n : ℕ)
    → many a (whole_pass (nesting_pass s m n)).attributes ≤ many a (entries (outer_schedule s))
at_most_all a s m n = omega (arith, at_stage a (get_or s m []) n, at_stages a s m)

-- what stands once and in a pass's own list does not stand in its nest
pub not_in_both : (a : ℕ) (pass : NestingPass) → many a (whole_pass pass).attributes ≤ 1
    → is_listed pass.attributes a ≡ true → is_listed (entries (inner_stages pass.nest)) a ≡ false
not_in_both a pass few own = go (is_listed (entries (inner_stages pass.nest)) a) refl
  where
    go : (b : Bool) → is_listed (entries (inner_stages pass.nest)) a ≡ b
        → is_listed (entries (inner_stages pass.nest)) a ≡ false
    go false e = e
    go true e =
        let x = times_listed a pass.attributes own in
        let y = times_listed a (entries (inner_stages pass.nest)) e in
        absurd (omega (arith, few, x, y, many-append a pass.attributes (entries (inner_stages pass.nest))))

entries-append : (xs ys : Schedule) → entries (xs ++ ys) ≡ entries xs ++ entries ys
entries-append xs ys = flat_map-append stage_lists xs ys

times_joined : (a : ℕ) (xs ys : Schedule) → many a (entries (xs ++ ys)) ≡ many a (entries xs) + many a (entries ys)
times_joined a xs ys = ap (many a) (entries-append xs ys) ∙ many-append a (entries xs) (entries ys)

times_alone : (a : ℕ) (passes : List Pass) → many a (entries (alone_stage passes)) ≡ many a (stage_lists passes)
times_alone a [] = refl
times_alone a (pass ∷ passes) =
    let front = many-append a (pass.attributes ++ []) (entries (alone_stage passes)) in
    let none = many-append a pass.attributes [] in
    let all = many-append a pass.attributes (stage_lists passes) in
    let i = times_alone a passes in
    let z : many a [] ≡ 0 = refl in
    omega (arith, front, none, all, i, z)

times_each : (a : ℕ) (s : Schedule) → many a (entries (each_alone s)) ≡ many a (entries s)
times_each a [] = refl
times_each a (passes ∷ s) =
    let front = times_joined a (alone_stage passes) (each_alone s) in
    let all = many-append a (stage_lists passes) (entries s) in
    omega (arith, front, all, times_alone a passes, times_each a s)

times_own : (a : ℕ) (pass : NestingPass) → many a (entries (own_stage pass)) ≡ many a pass.attributes
times_own a pass =
    let one = many-append a (pass.attributes ++ []) [] in
    let two = many-append a pass.attributes [] in
    let z : many a [] ≡ 0 = refl in
    omega (arith, one, two, z)

times_by : (a : ℕ) (kind : PassKind) (pass : NestingPass)
    → many a (entries (flat_by kind pass)) ≡ many a (whole_pass pass).attributes
times_by a topdown pass =
    let j = times_joined a (own_stage pass) (each_alone (inner_stages pass.nest)) in
    let all = many-append a pass.attributes (entries (inner_stages pass.nest)) in
    omega (arith, j, all, times_own a pass, times_each a (inner_stages pass.nest))
times_by a bottomup pass =
    let j = times_joined a (each_alone (inner_stages pass.nest)) (own_stage pass) in
    let all = many-append a pass.attributes (entries (inner_stages pass.nest)) in
    omega (arith, j, all, times_own a pass, times_each a (inner_stages pass.nest))
times_by a inorder pass =
    let j = times_joined a (own_stage pass) (each_alone (inner_stages pass.nest)) in
    let all = many-append a pass.attributes (entries (inner_stages pass.nest)) in
    omega (arith, j, all, times_own a pass, times_each a (inner_stages pass.nest))

times_stage : (a : ℕ) (passes : List NestingPass)
    → many a (entries (flat_stage passes)) ≡ many a (stage_lists (whole_stage passes))
times_stage a [] = refl
times_stage a (pass ∷ passes) =
    let j = times_joined a (flat_pass pass) (flat_stage passes) in
    let all = many-append a (whole_pass pass).attributes (stage_lists (whole_stage passes)) in
    omega (arith, j, all, times_by a pass.kind pass, times_stage a passes)

pub times_flat : (a : ℕ) (s : NestingSchedule) → many a (entries (flat_schedule s)) ≡ many a (entries (outer_schedule s))
times_flat a [] = refl
times_flat a (passes ∷ s) =
    let j = times_joined a (flat_stage passes) (flat_schedule s) in
    let all = many-append a (stage_lists (whole_stage passes)) (entries (outer_schedule s)) in
    omega (arith, j, all, times_stage a passes, times_flat a s)

-- what is not listed is not there
pub not_there : (a : ℕ) (xs : List ℕ) → is_listed xs a ≡ false → many a xs ≡ 0
not_there a [] h = refl
not_there a (x ∷ xs) h =
    sum_by-cons (λ b. cond (b == a) 1 0) x xs
    ∙ (elim (a == x) as
    (λ b. (a == x ≡ b) → (if b then true else is_listed xs a) ≡ false → cond (x == a) 1 0 + many a xs ≡ 0) [
      | true ↦ λ e h. absurd (let z : ⊥ = grind arith in z)
      | false ↦ λ e h.
          elim (x == a) as (λ b. (x == a ≡ b) → cond b 1 0 + many a xs ≡ 0) [
            | true ↦ λ f.
                absurd
                (let g : a == x ≡ true = eq-eqb a x (sym (eqb-true x a f)) in let z : ⊥ = grind (arith, g, e) in z)
            | false ↦ λ f. let i = not_there a xs h in omega (arith, i)
          ]
          refl
    ]
    refl h)
