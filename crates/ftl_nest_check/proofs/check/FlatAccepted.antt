-- The schedule without nests of an accepted one may be accepted.
use Rattle.std.proofs.Common.{◌≡◌, ℕ, ◌+◌, ◌≤◌, refl, sym, ap, subst, arith, List, [], ◌∷◌, ◌++◌, length, Contains, Ok}
use Rattle.std.specs.List.{All, sum_by}
use Rattle.std.proofs.lemmas.List.Elements.{All-append, All-cons, All-nil}
use Rattle.std.proofs.lemmas.List.Sums.{sum_by-append, sum_by-cons}
use Rattle.ftl_model.proofs.lists.Listed.{counted_in, listed}
use Rattle.ftl_model.specs.layout.AttributeGrammar.{AttributeGrammar}
use Rattle.ftl_order.specs.faults.FaultLaws.{AreComputed}
use Rattle.ftl_order.proofs.faults.Entries.{none_is_twice}
use Rattle.ftl_order.specs.orders.Lawful.{IsLawful}
use Rattle.ftl_order.specs.orders.Ordered.{IsOrdered}
use Rattle.ftl_order.specs.orders.Schedule.{Pass, PassKind, Schedule, bottomup, entries, inorder, topdown}
use Rattle.ftl_deps.specs.reads.Meant.{meant}
use Rattle.ftl_meaning.specs.faults.Checked.{CheckedGrammar}
use Rattle.ftl_schedule.specs.check.AcceptedSchedule.{IsAccepted}
use Rattle.ftl_schedule.specs.places.Placed.{verdict, without_twice}
use Rattle.ftl_schedule.specs.stages.PassLimits.{HasFewPasses, IsWithinPassLimits}
use Rattle.ftl_schedule.specs.stages.Stages.{stages_of}
use Rattle.ftl_schedule.specs.declared.stages.types.Schedule.{Schedule as FlatSchedule}
use Rattle.ftl_nests.specs.Flat.{alone_stage, each_alone, flat_by, flat_pass, flat_schedule, flat_stage, own_stage}
use Rattle.ftl_nests.specs.Nests.{IsNestOrdered, NestingPass, NestingSchedule, inner_stages, outer_schedule}
use Rattle.ftl_nests.proofs.FlatCounts.{times_flat, times_listed}
use Rattle.ftl_nests.proofs.FlatLaws.{flat_ordered}
use Rattle.ftl_nests.proofs.Plain.{plain_ordered_back}
use Rattle.ftl_nest_check.specs.check.NestAccepted.{IsNestAccepted}
use Rattle.ftl_nest_check.specs.check.WithoutNests.{without_nests}
use Rattle.ftl_nest_check.specs.stages.Nested.{IsWithinNestLimits, nests_of, passes_with}
use Rattle.ftl_nest_check.specs.declared.stages.types.NestingSchedule.{NestingSchedule as Nesting}
use Rattle.ftl_nest_check.proofs.check.NothingNested.{without}
use Rattle.ftl_nest_check.proofs.check.OuterLimits.{outer_limits}

-- ---- its entries are those of the other

pub flat_computed : (g : AttributeGrammar) (s : NestingSchedule) → AreComputed g (outer_schedule s)
    → AreComputed g (flat_schedule s)
flat_computed g s computed a there =
    let all = entries (flat_schedule s) in
    let some = times_listed a all (listed all a there) in
    let same = times_flat a s in
    computed a (counted_in (entries (outer_schedule s)) a (omega (arith, some, same)))

-- ---- each stage has one pass, and there are as many as the other has in all

pub few_alone : (pass : Pass) → HasFewPasses (pass ∷ [])
few_alone pass = record { some = omega arith; few = omega arith }

each_few : (passes : List Pass) → All HasFewPasses (alone_stage passes)
each_few [] = All-nil HasFewPasses
each_few (pass ∷ passes) =
    All-cons HasFewPasses (pass ∷ []) (alone_stage passes) (few_alone pass) (each_few passes)

alone_few : (s : Schedule) → All HasFewPasses (each_alone s)
alone_few [] = All-nil HasFewPasses
alone_few (passes ∷ s) =
    All-append HasFewPasses (alone_stage passes) (each_alone s) (each_few passes) (alone_few s)

own_few : (pass : NestingPass) → All HasFewPasses (own_stage pass)
own_few pass =
    let own : Pass = record { kind = pass.kind; attributes = pass.attributes } in
    All-cons HasFewPasses (own ∷ []) [] (few_alone own) (All-nil HasFewPasses)

pass_few : (kind : PassKind) (pass : NestingPass) → All HasFewPasses (flat_by kind pass)
pass_few topdown pass =
    All-append HasFewPasses (own_stage pass) (each_alone (inner_stages pass.nest)) (own_few pass)
    (alone_few (inner_stages pass.nest))
pass_few bottomup pass =
    All-append HasFewPasses (each_alone (inner_stages pass.nest)) (own_stage pass)
    (alone_few (inner_stages pass.nest)) (own_few pass)
pass_few inorder pass =
    All-append HasFewPasses (own_stage pass) (each_alone (inner_stages pass.nest)) (own_few pass)
    (alone_few (inner_stages pass.nest))

stage_few : (passes : List NestingPass) → All HasFewPasses (flat_stage passes)
stage_few [] = All-nil HasFewPasses
stage_few (pass ∷ passes) =
    All-append HasFewPasses (flat_pass pass) (flat_stage passes) (pass_few pass.kind pass) (stage_few passes)

flat_few : (s : NestingSchedule) → All HasFewPasses (flat_schedule s)
flat_few [] = All-nil HasFewPasses
flat_few (passes ∷ s) =
    All-append HasFewPasses (flat_stage passes) (flat_schedule s) (stage_few passes) (flat_few s)

abbrev count : Schedule → ℕ
count s = sum_by length s

count-append : (xs ys : Schedule) → count (xs ++ ys) ≡ count xs + count ys
count-append xs ys = sum_by-append length xs ys

count_alone : (passes : List Pass) → count (alone_stage passes) ≡ length passes
count_alone [] = refl
count_alone (pass ∷ passes) =
    let step = sum_by-cons length (pass ∷ []) (alone_stage passes) in
    let rest = count_alone passes in
    omega (arith, step, rest)

count_each : (s : Schedule) → count (each_alone s) ≡ count s
count_each [] = refl
count_each (passes ∷ s) =
    let joined = count-append (alone_stage passes) (each_alone s) in
    let step = sum_by-cons length passes s in
    omega (arith, joined, step, count_alone passes, count_each s)

count_pass : (kind : PassKind) (pass : NestingPass) → count (flat_by kind pass) ≡ passes_with pass
count_pass topdown pass =
    let joined = count-append (own_stage pass) (each_alone (inner_stages pass.nest)) in
    omega (arith, joined, count_each (inner_stages pass.nest))
count_pass bottomup pass =
    let joined = count-append (each_alone (inner_stages pass.nest)) (own_stage pass) in
    omega (arith, joined, count_each (inner_stages pass.nest))
count_pass inorder pass =
    let joined = count-append (own_stage pass) (each_alone (inner_stages pass.nest)) in
    omega (arith, joined, count_each (inner_stages pass.nest))

count_stage : (passes : List NestingPass) → count (flat_stage passes) ≡ sum_by passes_with passes
count_stage [] = refl
count_stage (pass ∷ passes) =
    let joined = count-append (flat_pass pass) (flat_stage passes) in
    let step = sum_by-cons passes_with pass passes in
    omega (arith, joined, step, count_pass pass.kind pass, count_stage passes)

count_flat : (s : NestingSchedule) → count (flat_schedule s) ≡ sum_by (sum_by passes_with) s
count_flat [] = refl
count_flat (passes ∷ s) =
    let joined = count-append (flat_stage passes) (flat_schedule s) in
    let step = sum_by-cons (sum_by passes_with) passes s in
    omega (arith, joined, step, count_stage passes, count_flat s)

pub flat_limits : (s : NestingSchedule) → IsWithinNestLimits s → IsWithinPassLimits (flat_schedule s)
flat_limits s within =
    let all = within.all in
    record { all = omega (arith, all, count_flat s); each = flat_few s }

-- ---- so the schedule without nests may be accepted

module _ (g : AttributeGrammar) (s : NestingSchedule) where
  pub computed_without : AreComputed g (outer_schedule s) → AreComputed g (without_nests s)
  computed_without computed = without (AreComputed g) s (flat_computed g s computed) (λ plain. computed)

  pub limits_without : IsWithinNestLimits s → IsWithinPassLimits (without_nests s)
  limits_without within = without IsWithinPassLimits s (flat_limits s within) (λ plain. outer_limits s within)

  pub ordered_without : IsLawful g → IsNestOrdered g s → IsOrdered g (without_nests s)
  ordered_without law ordered =
      without (IsOrdered g) s (flat_ordered g s law ordered)
      (λ same. plain_ordered_back g (outer_schedule s) (subst (IsNestOrdered g) same ordered))

pub accepted_without : (c : CheckedGrammar) (s : Nesting) (flat : FlatSchedule) → IsLawful (meant c)
    → IsNestAccepted c s → stages_of flat ≡ without_nests (nests_of s) → IsAccepted c flat
accepted_without c s flat law accepted is =
    let g = meant c in
    record {
      computed = subst (AreComputed g) (sym is) (computed_without g (nests_of s) accepted.may.computed);
      limits = subst IsWithinPassLimits (sym is) (limits_without g (nests_of s) accepted.may.limits);
      ordered = subst (IsOrdered g) (sym is) (ordered_without g (nests_of s) law accepted.ordered);
    }

-- ---- and no attribute has two entries in it

pub once_without : (c : CheckedGrammar) (flat : FlatSchedule) → IsAccepted c flat → without_twice flat ≡ Ok flat
once_without c flat accepted =
    ap (λ o. verdict o flat)
    (none_is_twice (meant c) (stages_of flat) accepted.computed accepted.ordered.once)
