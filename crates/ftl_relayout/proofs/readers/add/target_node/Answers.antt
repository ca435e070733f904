use Rattle.ftl_relayout.proofs.readers.Targets.{kid_target, own_target}
use Rattle.ftl_relayout.proofs.readers.add.target_node.Goals as goal

pub returns-in-None : goal.returns-in-None
returns-in-None c = record {
  target =
      own_target c.args.tree.now c.requires.law c.node_count-nodes.ensures.is_tree c.args.node c.requires.node c.args.info
      c.args.kid c.in-None.is;
}

pub returns-in-Some : goal.returns-in-Some
returns-in-Some c = record {
  target =
      kid_target c.args.tree.now c.requires.law c.node_count-nodes.ensures.is_tree c.args.node c.requires.node c.args.info
      c.args.kid c.in-Some.child c.in-Some.is c.requires.rule c.requires.class c.requires.kid c.kid.result
      c.kid.ensures.kid;
}
