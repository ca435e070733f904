use Rattle.std.proofs.Common.{◌<◌, ◌∙◌, length, length-set, arith}
use Rattle.ftl_deps.specs.reads.Meant.{meant}
use Rattle.ftl_step_value.proofs.limits.reads.Entries.{class_in_range}
use Rattle.ftl_model.specs.layout.Tree.{size}
use Rattle.ftl_plan.proofs.plans.Marking.{classes_next}
use Rattle.ftl_plan.proofs.plans.filled.marks_of_classes.Goals as goal

pub index_mut-requires : goal.index_mut-requires
index_mut-requires c =
    let t = c.args.tree.now in
    let nodes = c.node_count-node-end.ensures in
    let test = c.loop-node-test.true in
    let count = nodes.count in
    let known : c.loop-node.node < size t.tree = omega (arith, test, count) in
    let range = class_in_range (meant t.checked) c.requires.sound.law t.tree nodes.is_tree c.loop-node.node known in
    let class = c.class-class.ensures.class in
    let all = c.requires.count in
    let long = c.loop-node.invariant.0 in
    omega (arith, range, class, all, long)

pub loop-node-preserved : goal.loop-node-preserved
loop-node-preserved c =
    let t = c.args.tree.now in
    let nodes = c.node_count-node-end.ensures in
    let test = c.loop-node-test.true in
    let count = nodes.count in
    let known : c.loop-node.node < size t.tree = omega (arith, test, count) in
    let range = class_in_range (meant t.checked) c.requires.sound.law t.tree nodes.is_tree c.loop-node.node known in
    let class = c.class-class.ensures.class in
    let all = c.requires.count in
    let (long, before) = c.loop-node.invariant in
    let within : c.class-class.result < length c.loop-node.marks.items = omega (arith, range, class, all, long) in (
      length-set _ _ _ ∙ long,
      classes_next t.tree c.loop-node.node c.class-class.result c.loop-node.marks.items before class within,
    )
