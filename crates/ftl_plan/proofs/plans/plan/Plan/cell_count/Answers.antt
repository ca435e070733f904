use Rattle.std.proofs.Common.{ap, ◌∙◌}
use Rattle.ftl_deps.specs.reads.Meant.{meant}
use Rattle.ftl_meaning.specs.faults.Checked.{CheckedGrammar}
use Rattle.ftl_model.specs.layout.Table.{instance_count}
use Rattle.ftl_plan.specs.plans.Planned.{PlanMeaning}
use Rattle.ftl_plan.proofs.plans.plan.Plan.cell_count.Goals as goal

pub returns : goal.returns
returns c =
    record {
      cells =
          c.instance_count.ensures.count
          ∙ ap (λ (k : CheckedGrammar). instance_count (meant k) c.self.inside.tree.now.tree) c.self.invariant.tree
          ∙ ap (λ (p : PlanMeaning). instance_count (meant p.checked) p.tree) c.self.view_is;
    }
