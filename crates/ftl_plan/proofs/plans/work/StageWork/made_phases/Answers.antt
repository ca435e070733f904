use Rattle.std.proofs.Common.{ap, ◌∙◌, subst, Option}
use Rattle.std.specs.Prelude.{IfSome}
use Rattle.ftl_plan.specs.declared.plans.phases.ItemPhases.{ItemPhases}
use Rattle.ftl_plan.specs.plans.KindPhases.{FitLots, hosts_at, kinds_at}
use Rattle.ftl_plan.specs.plans.StageParts.{schedule_of}
use Rattle.ftl_plan.proofs.plans.KeptKinds.{fits_kinds, kinds_are, kinds_of_stage}
use Rattle.ftl_plan.proofs.plans.work.StageWork.made_phases.Goals as goal

pub returns-clause-kinds : goal.returns-clause-kinds
returns-clause-kinds c =
    let w = c.self.inside.parts in
    let items = w.item_tables.own.items in
    kinds_are c.in_ok-kinds.kinds.items items.passes.now c.in_ok-kinds.ensures.kinds
    ∙ kinds_of_stage w.item_tables (schedule_of w) w.stage c.self.invariant.passes
    ∙ ap kinds_at c.self.view_is

pub returns-clause-hosts : goal.returns-clause-hosts
returns-clause-hosts c =
    c.in_ok-hosts.ensures.hosts ∙ c.self.invariant.passes.hosts ∙ ap hosts_at c.self.view_is

pub returns-clause-fit : goal.returns-clause-fit
returns-clause-fit c =
    let w = c.self.inside.parts in
    let items = w.item_tables.own.items in
    let kinds =
    kinds_are c.in_ok-kinds.kinds.items items.passes.now c.in_ok-kinds.ensures.kinds
    ∙ kinds_of_stage w.item_tables (schedule_of w) w.stage c.self.invariant.passes
    ∙ ap kinds_at c.self.view_is in
    let hosts = c.in_ok-hosts.ensures.hosts ∙ c.self.invariant.passes.hosts ∙ ap hosts_at c.self.view_is in
    let v = c.args.self.now in
    fits_kinds v (record {
      kinds = c.in_ok-kinds.kinds;
      hosts = c.in_ok-hosts.hosts;
      lots = c.in_ok-lots.lots;
    }) kinds hosts (λ l is.
    subst (λ (o : Option ItemPhases). IfSome o (FitLots v (kinds_at v) (hosts_at v))) is c.in_ok-lots.ensures.fit)
