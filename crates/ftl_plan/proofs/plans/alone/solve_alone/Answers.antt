use denote.Param.Send.{sendable}
use Rattle.std.proofs.Common.{◌≡◌, ◌+◌, ◌<◌, ◌∙◌, ap, false, true, get_or, length, sym, subst, arith}
use Rattle.ftl_cells.specs.shared.State.{AreFirst, AreLast}
use Rattle.ftl_plan.specs.plans.StageParts.{StageView, meaning_at}
use Rattle.ftl_plan.specs.plans.StageWords.{FitStage}
use Rattle.ftl_plan.proofs.plans.Leaving.{same_entry}
use Rattle.ftl_plan.proofs.plans.Shared.{stage_work_sync}
use Rattle.ftl_plan.proofs.plans.alone.solve_alone.Goals as goal
use Rattle.ftl_plan.proofs.plans.alone.solve_alone.Goals.{then-index+in_ok-words-2, else-index}

pub loop-stage-init : goal.loop-stage-init
loop-stage-init c =
    subst (FitStage c.args.plan.now 0) (sym c.in_ok-words.ensures.words) c.words_fit.ensures.first

-- the work may be shared, and means what the words fit
pub run_alone-requires : goal.run_alone-requires
run_alone-requires c κs = (
  search (stage_work_sync, sendable) depth 30,
  subst (λ (v : StageView). AreFirst (meaning_at v) c.loop-stage.words.items) (sym c.stage.ensures.stage)
      c.loop-stage.invariant.first,
)

pub loop-stage-preserved : goal.loop-stage-preserved
loop-stage-preserved c =
    let p = c.args.plan.now in
    let stage = c.loop-stage.stage in
    let old = c.loop-stage.words.items in
    let marks = c.in_ok-filling.filling.items in
    let told = c.in_ok-filling.ensures.told in
    elim c.if-index.branch [
      | then-index+in_ok-words-2 w ↦
          let words = w.in_ok-words-2.words.items in
          let next : FitStage p (stage + 1) words =
          c.words_fit.ensures.next stage words
          (subst (λ (v : StageView). AreLast (meaning_at v) words) w.stage.ensures.stage w.in_ok-words-2.ensures.last) in
          subst (λ xs. FitStage p (stage + 1) xs) (sym (ap (λ v. v.items) w.words-is)) next
      | else-index w ↦
          let test = c.loop-stage-test.true in
          let stages = c.stage_count-stage-end.ensures.count in
          let long = told.count in
          let within : stage < length marks = omega (arith, test, stages, long) in
          let none : get_or marks stage true ≡ false =
          same_entry marks stage within
          ∙ sym (subst (λ b. b ≡ get_or marks stage b) w.if-index.false c.index.ensures) in
          let next : FitStage p (stage + 1) old =
          c.words_fit.ensures.next stage old (told.others stage none old c.loop-stage.invariant.first) in
          subst (λ xs. FitStage p (stage + 1) xs) (sym (ap (λ v. v.items) w.words-is)) next
    ]

pub returns : goal.returns
returns c =
    let count = c.stage_count-stage-end.ensures.count in
    let past = c.loop-stage-test.false in
    let most = c.loop-stage.auto.stage-end in
    record { solution = c.loop-stage.invariant.done (omega (arith, count, past, most)) }
