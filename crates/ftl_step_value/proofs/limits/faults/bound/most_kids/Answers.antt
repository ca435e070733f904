use Rattle.std.proofs.Common.{arith}
use Rattle.ftl_deps.specs.reads.Meant.{meant}
use Rattle.ftl_step_value.proofs.limits.faults.Bounds.{kids_within}
use Rattle.ftl_step_value.proofs.limits.faults.bound.most_kids.Goals as goal

pub returns-clause-within : goal.returns-clause-within
returns-clause-within c =
    let t = c.args.tree.now in
    let count = c.node_count-node-end.ensures.count in
    let past = c.loop-node-test.false in
    kids_within (meant t.checked) t.tree c.loop-node.most c.node_count-node-end.ensures.is_tree
    (λ node known. c.loop-node.invariant.within node (omega (arith, known, count, past)))
