use Rattle.std.proofs.Common.{ap, ◌∙◌, Some}
use Rattle.ftl_deps.specs.reads.Meant.{meant}
use Rattle.ftl_tree.specs.declared.rows.row.NodeRow.{NodeRow}
use Rattle.ftl_tree.proofs.rows.Access.{parent_is}
use Rattle.ftl_tree.proofs.trees.tree.Tree.parent.Goals as goal

pub returns : goal.returns
returns c = record {
  parent =
      ap (λ (r : NodeRow). Some r.parent) c.row.ensures.row
      ∙ parent_is (meant c.args.self.now.checked) c.args.self.now.tree c.args.node c.row.ensures.is_tree c.requires.node c.if-node-eq0.false;
}
