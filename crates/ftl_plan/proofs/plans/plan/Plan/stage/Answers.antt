use Rattle.std.proofs.Common.{ap, ◌∙◌, refl, sym, subst}
use Rattle.ftl_deps.specs.reads.Meant.{meant}
use Rattle.ftl_plan.specs.plans.Planned.{PlanMeaning}
use Rattle.ftl_plan.specs.plans.StageTables.{AreTablesOf, stage_in}
use Rattle.ftl_plan.proofs.plans.StagesOfPlans.{stage_fits, stage_view}
use Rattle.ftl_plan.specs.laws.StageMeanings.{CanBePlanned}
use Rattle.ftl_nest_check.specs.stages.Nested.{nests_of}
use Rattle.ftl_plan.proofs.plans.plan.Plan.stage.Goals as goal

pub new-requires : goal.new-requires
new-requires c =
    let p = c.self.inside in
    let at = subst (λ (q : PlanMeaning). AreTablesOf q c.args.stage c.nest_tables.result) (sym c.self.view_is)
    c.nest_tables.ensures.tables in
    let can = subst (λ (q : PlanMeaning). CanBePlanned (meant q.checked) (nests_of q.schedule) q.tree)
    (sym c.self.view_is) c.stage_count-stages.ensures.plan in
    record { fit = stage_fits p c.self.invariant _ at refl refl refl c.as_slice-neighbours.ensures.value c.as_slice-forms.ensures.value can }

pub returns : goal.returns
returns c =
    let p = c.self.inside in
    let at = subst (λ (q : PlanMeaning). AreTablesOf q c.args.stage c.nest_tables.result) (sym c.self.view_is)
    c.nest_tables.ensures.tables in
    record {
      stage =
          c.new.ensures.stage
          ∙ stage_view p c.self.invariant c.args.stage c.nest_tables.result at
          ∙ ap (λ (q : PlanMeaning). stage_in q c.args.stage) c.self.view_is;
    }
