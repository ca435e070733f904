use Rattle.std.proofs.Common.{arith}
use Rattle.ftl_deps.specs.reads.Meant.{meant}
use Rattle.ftl_visit.proofs.step_reads.ReadCounts.{few_kids}
use Rattle.ftl_visit.proofs.step_reads.counts.kid_count.Goals as goal

pub returns-clause-bound : goal.returns-clause-bound
returns-clause-bound c =
    let t = c.args.tree.now in
    let few = few_kids (meant t.checked) t.tree c.args.node c.args.child c.node_count-nodes.ensures.is_tree
    c.requires.node in
    let nodes = c.node_count-nodes.ensures.count in
    let bound = c.node_count-nodes.ensures.bound in
    let kids = c.kid_count.ensures in
    omega (arith, few, nodes, bound, kids)
