use Rattle.std.proofs.Common.{sym, ◌∙◌, arith}
use Rattle.ftl_model.specs.layout.Path.{class_at, node_at}
use Rattle.ftl_deps.specs.reads.Meant.{meant}
use Rattle.ftl_cursors.proofs.items.AllKids.{kid_entry, kids_next}
use Rattle.ftl_cursors.proofs.items.kids.kid_at.Goals as goal

pub returns-then-left-count : goal.returns-then-left-count
returns-then-left-count c =
    let t = c.args.tree.now in
    let g = meant t.checked in
    let p = node_at t.tree c.args.node in
    let child = c.loop-child.child in
    let below = c.loop-child-test.true in
    let count = c.child_count-child-end.ensures.count in
    let test = c.if-left-count.true in
    let kids = c.kid_count-count.ensures.count in
    record {
      kid =
          c.kid.ensures.kid
          ∙ sym
          (kid_entry t.tree p (g.child_count (class_at t.tree p)) child c.loop-child.left c.args.place
          (omega (arith, below, count)) (omega (arith, test, kids)) c.loop-child.invariant);
    }

pub loop-child-preserved : goal.loop-child-preserved
loop-child-preserved c =
    let t = c.args.tree.now in
    let next = kids_next t.tree (node_at t.tree c.args.node) c.loop-child.child in
    let kids = c.kid_count-count.ensures.count in
    let so_far = c.loop-child.invariant in
    let test = c.if-left-count.false in
    omega (arith, next, kids, so_far, test)
