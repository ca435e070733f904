use Rattle.std.proofs.Common.{◌≡◌, ◌<◌, List, get_or, length, map, ap, ◌∙◌, sym, subst}
use Rattle.std.proofs.lemmas.List.{length-map}
use Rattle.ftl_cursors.specs.items.HostRows.{AreNumbers, cut_in}
use Rattle.ftl_cursors.specs.items.RowsFit.{AreStarts}
use Rattle.ftl_host_cursors.specs.declared.tables.NestTables.{NestTables}
use Rattle.ftl_nest_check.specs.stages.Nested.{nests_of}
use Rattle.ftl_nest_check.specs.declared.stages.types.NestingPass.{NestingPass}
use Rattle.ftl_schedule.specs.stages.Stages.{pass_of}
use Rattle.ftl_schedule.specs.declared.stages.types.Pass.{Pass}
use Rattle.ftl_plan.specs.plans.Planned.{PlanMeaning}
use Rattle.ftl_plan.specs.plans.PlannedStages.{own_pass, pass_host}
use Rattle.ftl_plan.specs.plans.StageTables.{AreTablesOf}
use Rattle.ftl_plan.specs.declared.plans.kept.PlanStage.{PlanStage}
use Rattle.ftl_plan.proofs.plans.StagesOfPlans.{kept_is, kept_known, stage, tables_are}
use Rattle.ftl_plan.proofs.plans.plan.Plan.nest_tables.Goals as goal

pub bounds-stages-stage : goal.bounds-stages-stage
bounds-stages-stage c =
    let p = c.self.inside in
    let n = c.args.stage in
    let known : n < length (nests_of p.accepted.now.schedule) =
    subst (λ (q : PlanMeaning). n < length (nests_of q.schedule)) (sym c.self.view_is) c.requires.stage in
    subst (λ (xs : List PlanStage). n < length xs) (sym c.as_slice-stages.ensures.value)
    (kept_known p c.self.invariant n known)

pub new-requires : goal.new-requires
new-requires c =
    let p = c.self.inside in
    let n = c.args.stage in
    let known : n < length (nests_of p.accepted.now.schedule) =
    subst (λ (q : PlanMeaning). n < length (nests_of q.schedule)) (sym c.self.view_is) c.requires.stage in
    let k = c.index-stages-stage.result in
    let here : k ≡ get_or p.stages.items n k =
    c.index-stages-stage.is ∙ ap (λ (xs : List PlanStage). get_or xs n k) c.as_slice-stages.ensures.value in
    let kept = kept_is p c.self.invariant n known k here in
    let these : List NestingPass = (stage p c.self.invariant n known).passes in
    let as_many = length-map these pass_host ∙ sym (length-map these own_pass) ∙ ap (λ (ps : List Pass). length ps) (sym kept.own) in
    let passes = sym c.as_slice.ensures.value in
    let cuts = sym c.as_slice-2.ensures.value in
    record {
      numbers =
          subst (λ (ps : List Pass). AreNumbers p.items (length ps) c.as_slice-2.result.now) passes
          (subst (AreNumbers p.items (length k.passes.items)) cuts
          (subst (λ m. AreNumbers p.items m k.rows.cuts.items) as_many kept.rows.numbers.numbers_are));
      starts =
          subst
          (λ (ps : List Pass). AreStarts (length (map pass_of ps)) (cut_in p.items (map pass_of ps) c.as_slice-2.result.now)
          p.items.tree.now.tree c.as_slice-3.result.now) passes
          (subst
          (λ ns. AreStarts (length (map pass_of k.passes.items)) (cut_in p.items (map pass_of k.passes.items) ns)
          p.items.tree.now.tree c.as_slice-3.result.now) cuts
          (subst
          (AreStarts (length (map pass_of k.passes.items)) (cut_in p.items (map pass_of k.passes.items) k.rows.cuts.items)
          p.items.tree.now.tree) (sym c.as_slice-3.ensures.value) kept.rows.starts));
    }

pub returns : goal.returns
returns c =
    let p = c.self.inside in
    let n = c.args.stage in
    let known : n < length (nests_of p.accepted.now.schedule) =
    subst (λ (q : PlanMeaning). n < length (nests_of q.schedule)) (sym c.self.view_is) c.requires.stage in
    let k = c.index-stages-stage.result in
    let here : k ≡ get_or p.stages.items n k =
    c.index-stages-stage.is ∙ ap (λ (xs : List PlanStage). get_or xs n k) c.as_slice-stages.ensures.value in
    let x : NestTables = record {
      own = record {
        items = c.new.result;
        visits = c.as_slice-4.result;
        places = c.as_slice-5.result;
        targets = c.as_slice-6.result;
      };
      nests = c.as_slice-7.result;
    } in
    let made = c.new.ensures.made in
    record {
      tables =
          subst (λ (q : PlanMeaning). AreTablesOf q n x) c.self.view_is
          (tables_are p c.self.invariant n known x k here made.rows_are (made.passes_are ∙ c.as_slice.ensures.value)
          (made.cuts_are ∙ c.as_slice-2.ensures.value) c.as_slice-4.ensures.value c.as_slice-5.ensures.value
          c.as_slice-6.ensures.value c.as_slice-7.ensures.value);
    }
