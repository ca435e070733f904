use Rattle.std.proofs.Common.{◌≡◌, ◌+◌, ◌<◌, Bool, List, ap, get_or, sym, ◌∙◌, length, length-set, refl, set, subst, take, true, arith}
use Rattle.std.proofs.lemmas.List.{take_all}
use Rattle.ftl_model.proofs.lists.Elements.{nothing_in}
use Rattle.ftl_nest_check.specs.stages.Nested.{nests_of}
use Rattle.ftl_nest_check.specs.declared.stages.types.NestingSchedule.{NestingSchedule}
use Rattle.ftl_nests.specs.Nests.{outer_schedule}
use Rattle.ftl_order.specs.orders.Schedule.{SchedulePlace, stage_of}
use Rattle.ftl_plan.specs.plans.FilledStages.{AreStagesSet, StaySet}
use Rattle.ftl_plan.proofs.plans.Marking.{now_set, stages_next, stay_set}
use Rattle.ftl_plan.proofs.plans.filled.set_stages.Goals as goal
use Rattle.ftl_plan.proofs.plans.filled.set_stages.Goals.{then-stage-len, else-stage-len}

pub loop-attr-init : goal.loop-attr-init
loop-attr-init c = (refl, (λ n is. is), (λ a h known. absurd (nothing_in a h)))

pub loop-attr-preserved : goal.loop-attr-preserved
loop-attr-preserved c =
    let s = outer_schedule (nests_of c.args.accepted.now.schedule) in
    let attrs = c.args.attrs.now in
    let a = get_or attrs c.loop-attr.attr-index 0 in
    let old = c.loop-attr.marks.items in
    let here : c.outer-stage.result.stage ≡ stage_of s a =
    ap (λ (x : SchedulePlace). x.stage) c.outer-stage.ensures.place
    ∙ ap (λ (x : NestingSchedule). stage_of (outer_schedule (nests_of x)) a) c.placed.ensures.schedule in
    let (long, stay, before) = c.loop-attr.invariant in
    let k = c.loop-attr.attr-index in
    let i = stage_of s a in
    let test = c.loop-attr-test.true in
    let count = c.len.ensures in
    let all : List Bool → Type 0 =
    λ xs. (length xs ≡ length c.args.marks.now.items)
    × (StaySet c.args.marks.now.items xs)
    × AreStagesSet s (take (k + 1) attrs) xs in
    elim c.if-stage-len.branch [
      | then-stage-len w ↦
          let new = set old i true in
          let is : c.if-stage-len.marks.items ≡ new = ap (λ v. v.items) w.marks-is ∙ ap (λ n. set old n true) here in
          let below = w.if-stage-len.true in
          let known : i < length old = omega (arith, below, here, count) in
          let kept : all new = (
            length-set _ _ _ ∙ long,
            (λ n was. stay_set old i n (stay n was)),
            stages_next s attrs k old new test (length-set _ _ _) (stay_set old i) before (λ within. now_set old i known),
          ) in
          subst all (sym is) kept
      | else-stage-len w ↦
          let is : c.if-stage-len.marks.items ≡ old = ap (λ v. v.items) w.marks-is in
          let past = w.if-stage-len.false in
          let kept : all old = (
            long,
            stay,
            stages_next s attrs k old old test refl (λ n was. was) before
                (λ within. absurd (let z : ⊥ = omega (arith, within, past, here, count) in z)),
          ) in
          subst all (sym is) kept
    ]

pub returns-clause-stay : goal.returns-clause-stay
returns-clause-stay c = c.loop-attr.invariant.1

pub returns-clause-set : goal.returns-clause-set
returns-clause-set c =
    let past = c.loop-attr-test.false in
    subst
    (λ xs. AreStagesSet (outer_schedule (nests_of c.args.accepted.now.schedule)) xs c.loop-attr.marks.items)
    (take_all c.loop-attr.attr-index c.args.attrs.now (omega (arith, past))) c.loop-attr.invariant.2
