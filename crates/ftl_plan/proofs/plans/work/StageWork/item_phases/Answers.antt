use Rattle.std.proofs.Common.{subst, sym, ◌∙◌}
use Rattle.ftl_deps.specs.reads.Meant.{meant}
use Rattle.ftl_cells.specs.declared.work_phases.phase.Phases.{Phases}
use Rattle.ftl_plan.specs.phases.StagePhases.{CanBeTaken}
use Rattle.ftl_plan.specs.plans.KindPhases.{hosts_at, kinds_at}
use Rattle.ftl_plan.proofs.plans.StageClasses.{classes_at, taken_at, takes}
use Rattle.ftl_plan.proofs.plans.work.StageWork.item_phases.Goals as goal

pub new-requires-clause-count : goal.new-requires-clause-count
new-requires-clause-count c =
    let t = c.in-Some.phases in
    (takes c.self.inside.parts c.self.invariant t (c.in_ok-phases.ensures.phases t c.in-Some.is)).count
    ∙ sym c.items.ensures.count

pub new-requires-clause-known : goal.new-requires-clause-known
new-requires-clause-known c =
    let t = c.in-Some.phases in
    (takes c.self.inside.parts c.self.invariant t (c.in_ok-phases.ensures.phases t c.in-Some.is)).known

pub returns : goal.returns
returns c =
    let v = c.args.self.now in
    let w = c.self.inside.parts in
    let t = c.in-Some.phases in
    record {
      fit = record {
        taken =
            subst (λ (e : Phases). CanBeTaken (meant v.checked) v.tree v.grain (kinds_at v) (hosts_at v) e)
            (sym c.in_ok-phases-2.ensures.phases)
            (taken_at w c.self.invariant v c.self.view_is t (c.in_ok-phases.ensures.phases t c.in-Some.is));
        classes =
            classes_at w c.self.invariant v c.self.view_is c.in_ok-classes.classes.items c.in_ok-classes.ensures.sets;
      };
    }
