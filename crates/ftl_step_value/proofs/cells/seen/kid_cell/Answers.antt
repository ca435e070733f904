-- The kid has its number.
use Rattle.ftl_deps.specs.reads.Meant.{meant}
use Rattle.ftl_step_value.proofs.cells.KidCells.{kid_there}
use Rattle.ftl_step_value.proofs.cells.seen.kid_cell.Goals as goal

pub kid_instance-requires-clause-at : goal.kid_instance-requires-clause-at
kid_instance-requires-clause-at c =
    let t = c.args.tree.now in
    (kid_there (meant t.checked) t.tree c.node_count-nodes.ensures.is_tree c.args.node c.args.child c.args.number
    c.requires.node c.requires.there.0).at_child

pub kid_instance-requires-clause-k : goal.kid_instance-requires-clause-k
kid_instance-requires-clause-k c =
    let t = c.args.tree.now in
    (kid_there (meant t.checked) t.tree c.node_count-nodes.ensures.is_tree c.args.node c.args.child c.args.number
    c.requires.node c.requires.there.0).counted
