use Rattle.std.proofs.Common.{◌≡◌, ◌≤◌, ◌+◌, List, [], ◌∷◌, ◌++◌, length, take, ap, ◌∙◌, sym, subst, Contains}
use Rattle.std.specs.List.{All, AllZip}
use Rattle.std.proofs.lemmas.List.{take_more}
use Rattle.std.proofs.lemmas.List.Elements.{All-get_or}
use Rattle.ftl_deps.specs.reads.Meant.{meant}
use Rattle.ftl_meaning.specs.faults.Checked.{CheckedGrammar}
use Rattle.ftl_cursors.specs.items.HostRows.{hosts_of}
use Rattle.ftl_nest_check.specs.declared.stages.types.NestingPass.{NestingPass}
use Rattle.ftl_nest_check.specs.declared.stages.types.NestingStage.{NestingStage}
use Rattle.ftl_plan.specs.plans.PlannedStages.{AreHostsAmong, IsStageKept, pass_hosts}
use Rattle.ftl_plan.specs.declared.plans.kept.PlanStage.{PlanStage}
use Rattle.ftl_plan.proofs.plans.RowsByStage.{zip_push}
use Rattle.ftl_plan.proofs.plans.stages.kept_stages.Goals as goal

pub kept_stage-requires : goal.kept_stage-requires
kept_stage-requires c =
    let stages = c.args.stages.now in
    let n = c.loop-stage.stage-index in
    let stage = c.stage-item.result in
    let below = c.loop-stage-test.true in
    let passes = sym c.as_slice.ensures in
    record {
      few =
          subst (λ (ps : List NestingPass). length ps ≤ 2048) passes
          (subst (λ (s : NestingStage). length s.passes ≤ 2048) (sym c.stage-item.is)
          (All-get_or (λ (s : NestingStage). length s.passes ≤ 2048) stages n stage below c.requires.few));
      hosts =
          subst (λ (ps : List NestingPass). All (Contains (hosts_of c.args.items.now)) (pass_hosts ps)) passes
          (subst (AreHostsAmong (hosts_of c.args.items.now)) (sym c.stage-item.is)
          (All-get_or (AreHostsAmong (hosts_of c.args.items.now)) stages n stage below c.requires.hosts));
    }

pub loop-stage-preserved : goal.loop-stage-preserved
loop-stage-preserved c =
    let g = meant c.args.checked.now in
    let items = c.args.items.now in
    let R : NestingStage → PlanStage → Type 0 = λ s k. IsStageKept g items s.passes k in
    let stages = c.args.stages.now in
    let n = c.loop-stage.stage-index in
    let stage = c.stage-item.result in
    let kept = c.in_ok-kept_stage.field-0 in
    let front : take (n + 1) stages ≡ take n stages ++ stage ∷ [] =
    take_more stages n stage c.loop-stage-test.true
    ∙ ap (λ (x : NestingStage). take n stages ++ x ∷ []) (sym c.stage-item.is) in
    let these : R stage kept =
    subst (λ (ps : List NestingPass). IsStageKept g items ps kept) c.as_slice.ensures
    (subst (λ (x : CheckedGrammar). IsStageKept (meant x) items c.as_slice.result.now kept)
    c.in_ok-index.ensures.grammar c.in_ok-kept_stage.ensures.kept) in
    subst (λ (xs : List NestingStage). AllZip R xs c.push.new.self.items) (sym front)
    (subst (λ (ys : List PlanStage). AllZip R (take n stages ++ stage ∷ []) ys) (sym c.in_ok-push.ensures.items)
    (zip_push R (take n stages) c.loop-stage.kept.items stage kept c.loop-stage.invariant these))
