use denote.Param.Send.{sendable}
use Rattle.std.proofs.Common.{◌≡◌, ℕ, ◌+◌, ◌<◌, ◌≤◌, ap, false, true, List, get_or, length, refl, sym, subst, ◌∙◌, arith, Some}
use Rattle.std.proofs.lemmas.List.{get_or_default}
use Rattle.std.specs.List.{All}
use Rattle.std.proofs.lemmas.List.Elements.{All-nil}
use Rattle.std.proofs.lemmas.Option.{slice_get_read}
use Rattle.ftl_cells.specs.shared.State.{AreFirst, AreLast}
use Rattle.ftl_cells.specs.work_phases.Phases.{CanTake}
use Rattle.ftl_lots.specs.filling.Blocks.{AreIdle}
use Rattle.ftl_deps.specs.reads.Meant.{meant}
use Rattle.ftl_items.specs.solution.Solution.{solution}
use Rattle.ftl_items.specs.stage_items.WordLaws.{HoldTheSolution}
use Rattle.ftl_plan.specs.declared.plans.phases.ItemPhases.{ItemPhases}
use Rattle.ftl_plan.specs.declared.plans.phases.KindPhases.{KindPhases}
use Rattle.ftl_plan.specs.plans.KindPhases.{AreForStage, AreForStageAt, FitKinds}
use Rattle.ftl_plan.specs.plans.Planned.{PlanMeaning}
use Rattle.ftl_plan.specs.plans.StageParts.{StageView, meaning_at}
use Rattle.ftl_plan.specs.plans.StageTables.{stage_in}
use Rattle.ftl_plan.specs.plans.StageWords.{FitStage}
use Rattle.ftl_plan.proofs.plans.Shared.{stage_work_sync}
use Rattle.ftl_run.proofs.solve.workers.solve.Goals as goal
use Rattle.ftl_run.proofs.solve.workers.solve.Goals.{then-index+in_ok-place+in_ok-words, else-index}

pub loop-stage-init : goal.loop-stage-init
loop-stage-init g c = (
  subst (FitStage c.args.plan.now 0) (sym (c.in_a_row-words.ensures.words ∙ c.in_ok-first_words.ensures.words))
      c.words_fit.ensures.first,
  subst (All (FitKinds (stage_in c.args.plan.now 0))) (sym c.new-kept.ensures.items)
      (All-nil (FitKinds (stage_in c.args.plan.now 0))),
)

pub phases-requires-clause-kept : goal.phases-requires-clause-kept
phases-requires-clause-kept g c =
    subst (λ (v : StageView). All (FitKinds v) c.loop-stage.kept.items) (sym c.stage-work.ensures.stage)
    c.loop-stage.invariant.1

-- what is kept fits each stage of the tree
next_stage : (p : PlanMeaning) (stage : ℕ) (kept : List KindPhases) → All (FitKinds (stage_in p stage)) kept
    → All (FitKinds (stage_in p (stage + 1))) kept
next_stage p stage kept all k d below l is =
    let fit = all k d below l is in record { taken = fit.taken; classes = fit.classes }

-- the entry at the place is for the stage
for_stage : (kept : List KindPhases) (place : ℕ) (entry : KindPhases) (v : StageView) → place < length kept
    → entry ≡ get_or kept place entry → AreForStageAt v kept place
    → (l : ItemPhases) → entry.lots ≡ Some l → AreForStage v l
for_stage kept place entry v known is are l some = are entry l (slice_get_read kept _ place entry refl known is) some

-- the work may be shared, and means what the words fit
pub words_after-requires : goal.words_after-requires
words_after-requires g c κs =
    let first =
    subst (λ (v : StageView). AreFirst (meaning_at v) c.loop-stage.words) (sym c.stage-work.ensures.stage)
    c.loop-stage.invariant.0.first in
    let kept = c.phases.new.kept.items in
    let entry = c.index-then-index.result.now in
    let takes : (l : ItemPhases) → entry.lots ≡ Some l → CanTake (meaning_at c.stage-work.result) l.phases =
    λ l is. (for_stage kept c.in_ok-place.place entry c.stage-work.result c.in_ok-place.ensures.place
    c.index-then-index.ensures c.in_ok-place.ensures.phases l is).taken in
    let few : c.worker_count-fewer.result ≤ 64 = omega (arith, c.worker_count-fewer.ensures.few, c.requires.few) in
    let idle : AreIdle (meaning_at c.stage-work.result) c.blocks-blocks.result = c.blocks-blocks.ensures.idle in (
      search sendable depth 30,
      (
        search (stage_work_sync, sendable) depth 30,
        (search sendable depth 30, (first, (takes, (idle, (c.worker_count-fewer.ensures.some, few))))),
      ),
    )

-- what is kept at the place is for the stage
pub blocks-blocks-requires : goal.blocks-blocks-requires
blocks-blocks-requires g c = record {
  lots = for_stage c.phases.new.kept.items c.in_ok-place.place c.index-then-index.result.now c.stage-work.result
      c.in_ok-place.ensures.place c.index-then-index.ensures c.in_ok-place.ensures.phases;
}

pub loop-stage-preserved : goal.loop-stage-preserved
loop-stage-preserved g c =
    let p = c.args.plan.now in
    let stage = c.loop-stage.stage in
    let told = c.in_ok-filling.ensures.told in
    elim c.if-index.branch [
      | then-index+in_ok-place+in_ok-words w ↦
          let words = w.in_ok-words.words in
          let kept = w.phases.new.kept.items in (
            subst (λ ws. FitStage p (stage + 1) ws) (sym w.words-is)
                (c.words_fit.ensures.next stage words
                (subst (λ (v : StageView). AreLast (meaning_at v) words) w.stage-work.ensures.stage
                w.in_ok-words.ensures.last)),
            subst (λ ks. All (FitKinds (stage_in p (stage + 1))) ks) (sym (ap (λ v. v.items) w.kept-is))
                (next_stage p stage kept
                (subst (λ (v : StageView). All (FitKinds v) kept) w.stage-work.ensures.stage w.in_ok-place.ensures.kept)),
          )
      | else-index w ↦
          let marks = c.in_ok-filling.filling.items in
          let mark = c.index.result.now in
          let words = c.loop-stage.words in
          let test = c.loop-stage-test.true in
          let stages = c.stage_count-stage-end.ensures.count in
          let long = told.count in
          let within : stage < length marks = omega (arith, test, stages, long) in
          let none : get_or marks stage true ≡ false =
          sym (c.index.ensures ∙ get_or_default marks stage mark true within) ∙ w.if-index.false in (
            subst (λ ws. FitStage p (stage + 1) ws) (sym w.words-is)
                (c.words_fit.ensures.next stage words (told.others stage none words c.loop-stage.invariant.0.first)),
            subst (λ ks. All (FitKinds (stage_in p (stage + 1))) ks) (sym (ap (λ v. v.items) w.kept-is))
                (next_stage p stage c.loop-stage.kept.items c.loop-stage.invariant.1),
          )
    ]

pub returns : goal.returns
returns g c =
    let count = c.stage_count-stage-end.ensures.count in
    let past = c.loop-stage-test.false in
    let most = c.loop-stage.auto.stage-end in
    let done = c.loop-stage.invariant.0.done (omega (arith, count, past, most)) in record {
      solution = subst (HoldTheSolution (solution (meant c.args.plan.now.checked) c.args.plan.now.tree))
          (sym c.into_row-row.ensures.words) done;
    }
