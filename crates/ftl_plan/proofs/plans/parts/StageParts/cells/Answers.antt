use Rattle.std.proofs.Common.{◌∙◌, ap}
use Rattle.ftl_deps.specs.reads.Meant.{meant}
use Rattle.ftl_model.specs.layout.Table.{instance_count}
use Rattle.ftl_tree.specs.trees.CheckedTree.{CheckedTree}
use Rattle.ftl_plan.proofs.plans.Bridge.{cells_are}
use Rattle.ftl_plan.proofs.plans.parts.StageParts.cells.Goals as goal

pub returns : goal.returns
returns c = record {
  count =
      c.instance_count.ensures.count
      ∙ ap (λ (t : CheckedTree). instance_count (meant t.checked) t.tree) c.tree.ensures.tree
      ∙ cells_are c.args.self.now c.requires.fit;
}
