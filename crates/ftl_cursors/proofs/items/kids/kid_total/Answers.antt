use Rattle.std.proofs.Common.{◌+◌, ap, arith}
use Rattle.ftl_model.specs.layout.Path.{node_at}
use Rattle.ftl_deps.specs.reads.Meant.{meant}
use Rattle.ftl_items.proofs.numbers.NextCounts.{few_kids}
use Rattle.ftl_tree.proofs.rows.Access.{has_at, size-one}
use Rattle.ftl_cursors.proofs.items.AllKids.{kids_before, kids_next, kids_within}
use Rattle.ftl_cursors.proofs.items.kids.kid_total.Goals as goal

pub overflow_add-total : goal.overflow_add-total
overflow_add-total c =
    let t = c.args.tree.now in
    let g = meant t.checked in
    let p = node_at t.tree c.args.node in
    let child = c.loop-child.child in
    let fits = c.node_count-nodes.ensures.is_tree in
    let few = few_kids g t.tree fits p (has_at g t.tree c.args.node fits c.requires.node) in
    let one = size-one g t.tree fits in
    let count = c.child_count-child-end.ensures.count in
    let below = c.loop-child-test.true in
    let within = kids_within t.tree p (child + 1) c.child_count-child-end.result (omega (arith, below)) in
    let all = ap (kids_before t.tree p) count in
    let next = kids_next t.tree p child in
    let kids = c.kid_count-total.ensures.count in
    let so_far = c.loop-child.invariant in
    let nodes = c.node_count-nodes.ensures.count in
    let bound = c.node_count-nodes.ensures.bound in
    omega (arith, few, one, within, all, next, kids, so_far, nodes, bound)

pub loop-child-preserved : goal.loop-child-preserved
loop-child-preserved c =
    let t = c.args.tree.now in
    let next = kids_next t.tree (node_at t.tree c.args.node) c.loop-child.child in
    let kids = c.kid_count-total.ensures.count in
    let so_far = c.loop-child.invariant in
    omega (arith, next, kids, so_far)
