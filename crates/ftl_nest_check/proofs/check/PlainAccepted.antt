-- An accepted schedule that nests nothing is accepted as one that may.
use Rattle.std.proofs.Common.{◌≡◌, ℕ, zero, suc, refl, sym, subst, arith, List, [], ◌∷◌, length, get_or, None}
use Rattle.std.specs.List.{All, sum_by}
use Rattle.std.proofs.lemmas.List.{length-map}
use Rattle.std.proofs.lemmas.List.Elements.{All-cons, All-head, All-nil, All-tail}
use Rattle.std.proofs.lemmas.List.Sums.{sum_by-cons}
use Rattle.ftl_model.specs.layout.AttributeGrammar.{AttributeGrammar}
use Rattle.ftl_deps.specs.reads.Meant.{meant}
use Rattle.ftl_meaning.specs.faults.Checked.{CheckedGrammar}
use Rattle.ftl_order.specs.faults.FaultLaws.{AreComputed}
use Rattle.ftl_schedule.specs.check.AcceptedSchedule.{IsAccepted}
use Rattle.ftl_schedule.specs.stages.Stages.{stages_of}
use Rattle.ftl_schedule.specs.declared.stages.types.Schedule.{Schedule as FlatSchedule}
use Rattle.ftl_order.specs.orders.Schedule.{Pass, Schedule}
use Rattle.ftl_schedule.specs.stages.PassLimits.{HasFewPasses, IsWithinPassLimits}
use Rattle.ftl_nests.specs.Flat.{plain, plain_pass, plain_stage}
use Rattle.ftl_nests.specs.Nests.{AreSidesKept, IsNestOrdered, NestingPass, inner_stages, nesting_pass, no_pass}
use Rattle.ftl_nests.proofs.Plain.{outer_plain, plain_ordered}
use Rattle.ftl_nest_check.specs.check.NestAccepted.{IsNestAccepted, MayBeVerified}
use Rattle.ftl_nest_check.specs.stages.Nested.{HasFewNestingPasses, IsWithinNestLimits, nests_of, passes_with}
use Rattle.ftl_nest_check.specs.declared.stages.types.NestingSchedule.{NestingSchedule}

-- ---- no pass has a nest

no_nest_at : (passes : List Pass) (n : ℕ) → (get_or (plain_stage passes) n no_pass).nest ≡ None
no_nest_at [] n = refl
no_nest_at (pass ∷ passes) zero = refl
no_nest_at (pass ∷ passes) (suc n) = no_nest_at passes n

no_nests : (s : Schedule) (m n : ℕ) → (nesting_pass (plain s) m n).nest ≡ None
no_nests [] m n = refl
no_nests (passes ∷ s) zero n = no_nest_at passes n
no_nests (passes ∷ s) (suc m) n = no_nests s m n

-- ---- so the passes are those that there were

abbrev InnerFew : NestingPass → Type 0
InnerFew pass = All HasFewPasses (inner_stages pass.nest)

inner_few : (passes : List Pass) → All InnerFew (plain_stage passes)
inner_few [] = All-nil InnerFew
inner_few (pass ∷ passes) =
    All-cons InnerFew (plain_pass pass) (plain_stage passes) (All-nil HasFewPasses) (inner_few passes)

plain_few : (passes : List Pass) → HasFewPasses passes → HasFewNestingPasses (plain_stage passes)
plain_few passes has =
    let same = length-map passes plain_pass in
    let some = has.some in
    let few = has.few in
    record { some = omega (arith, some, same); few = omega (arith, few, same); inner = inner_few passes }

each_few : (s : Schedule) → All HasFewPasses s → All HasFewNestingPasses (plain s)
each_few [] all = All-nil HasFewNestingPasses
each_few (passes ∷ s) all =
    All-cons HasFewNestingPasses (plain_stage passes) (plain s)
    (plain_few passes (All-head HasFewPasses passes s all)) (each_few s (All-tail HasFewPasses passes s all))

count_stage : (passes : List Pass) → sum_by passes_with (plain_stage passes) ≡ length passes
count_stage [] = refl
count_stage (pass ∷ passes) =
    let step = sum_by-cons passes_with (plain_pass pass) (plain_stage passes) in
    let rest = count_stage passes in
    omega (arith, step, rest)

count_plain : (s : Schedule) → sum_by (sum_by passes_with) (plain s) ≡ sum_by length s
count_plain [] = refl
count_plain (passes ∷ s) =
    let step = sum_by-cons (sum_by passes_with) (plain_stage passes) (plain s) in
    let flat = sum_by-cons length passes s in
    omega (arith, step, flat, count_stage passes, count_plain s)

plain_limits : (s : Schedule) → IsWithinPassLimits s → IsWithinNestLimits (plain s)
plain_limits s within =
    let all = within.all in
    record { all = omega (arith, all, count_plain s); each = each_few s within.each }

-- ---- it is accepted

may_be_verified : (g : AttributeGrammar) (s : Schedule) → AreComputed g s → IsWithinPassLimits s
    → AreSidesKept g (plain s) → MayBeVerified g (plain s)
may_be_verified g s computed limits sides =
    record {
      computed = subst (AreComputed g) (sym (outer_plain s)) computed;
      limits = plain_limits s limits;
      kept = record { sides = sides; inorder_has_none = λ m n inorder. no_nests s m n };
    }

pub plain_accepted : (c d : CheckedGrammar) (flat : FlatSchedule) (nests : NestingSchedule) → c ≡ d
    → IsAccepted c flat → nests_of nests ≡ plain (stages_of flat) → IsNestAccepted d nests
plain_accepted c d flat nests same accepted is =
    let g = meant c in
    let s = stages_of flat in
    let ordered = plain_ordered g s accepted.ordered in
    let may = may_be_verified g s accepted.computed accepted.limits ordered.sides in
    subst (λ x. IsNestAccepted x nests) same
    (record {
      may = subst (MayBeVerified g) (sym is) may;
      ordered = subst (IsNestOrdered g) (sym is) ordered;
    })
