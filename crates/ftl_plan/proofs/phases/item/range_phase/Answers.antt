use Rattle.std.proofs.Common.{arith}
use Rattle.std.proofs.Math.Nat.{div-le_self, div-mul-le_self}
use Rattle.ftl_deps.specs.reads.Meant.{meant}
use Rattle.ftl_model.specs.layout.Path.{node_at}
use Rattle.ftl_tree.proofs.rows.Access.{has_at}
use Rattle.ftl_plan.proofs.phases.Cells.{few_cells}
use Rattle.ftl_plan.proofs.phases.item.range_phase.Goals as goal

pub overflow_add-range : goal.overflow_add-range
overflow_add-range c =
    let t = c.args.tree.now in
    let fits = c.node_count-nodes.ensures.is_tree in
    let few =
    few_cells (meant t.checked) t.tree fits (node_at t.tree c.args.node)
    (has_at (meant t.checked) t.tree c.args.node fits c.requires.node) in
    let less = div-le_self c.first_instance.result c.args.size in
    let first = c.first_instance.ensures.first in
    let all = c.instance_count-cells.ensures.count in
    let bound = c.instance_count-cells.ensures.bound in
    omega (arith, few, less, first, all, bound)

pub overflow_mul-range : goal.overflow_mul-range
overflow_mul-range c =
    let t = c.args.tree.now in
    let fits = c.node_count-nodes.ensures.is_tree in
    let few =
    few_cells (meant t.checked) t.tree fits (node_at t.tree c.args.node)
    (has_at (meant t.checked) t.tree c.args.node fits c.requires.node) in
    let less = div-mul-le_self c.first_instance.result c.args.size in
    let first = c.first_instance.ensures.first in
    let all = c.instance_count-cells.ensures.count in
    let bound = c.instance_count-cells.ensures.bound in
    let size = c.requires.few in
    omega (arith, few, less, first, all, bound, size)
