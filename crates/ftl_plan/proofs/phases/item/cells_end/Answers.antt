use Rattle.std.proofs.Common.{◌≡◌, ◌+◌, ◌∙◌, ap, sym, arith}
use Rattle.ftl_deps.specs.reads.Meant.{meant}
use Rattle.ftl_model.specs.layout.Path.{node_at, number_of, size_at}
use Rattle.ftl_plan.proofs.cells.CellPlaces.{all_before, cells_before, first_is}
use Rattle.ftl_tree.proofs.rows.Access.{has_at, number_at}
use Rattle.ftl_plan.proofs.phases.Cells.{ends_within}
use Rattle.ftl_plan.proofs.phases.item.cells_end.Goals as goal

pub overflow_add-after : goal.overflow_add-after
overflow_add-after c =
    let t = c.args.tree.now in
    let fits = c.node_count-nodes.ensures.is_tree in
    let g = meant t.checked in
    let p = node_at t.tree c.args.node in
    let end = ends_within g t.tree fits p (has_at g t.tree c.args.node fits c.requires.node) in
    let number = number_at g t.tree c.args.node fits c.requires.node in
    let size = c.subtree_size.ensures.size in
    let count = c.node_count-nodes.ensures.count in
    let bound = c.node_count-nodes.ensures.bound in
    omega (arith, end, number, size, count, bound)

pub returns-then-after-nodes : goal.returns-then-after-nodes
returns-then-after-nodes c =
    let t = c.args.tree.now in
    let g = meant t.checked in
    let fits = c.node_count-nodes.ensures.is_tree in
    let after = c.args.node + c.subtree_size.result in
    let p = node_at t.tree c.args.node in
    let test = c.if-after-nodes.true in
    let count = c.node_count-nodes.ensures.count in
    let number = number_at g t.tree c.args.node fits c.requires.node in
    let size = c.subtree_size.ensures.size in
    let same : after ≡ number_of t.tree p + size_at t.tree p = omega (arith, number, size) in
    record {
      end =
          c.first_instance.ensures.first
          ∙ first_is g t.tree fits after (omega (arith, test, count))
          ∙ ap (cells_before g t.tree) same;
    }

pub returns-else-after-nodes : goal.returns-else-after-nodes
returns-else-after-nodes c =
    let t = c.args.tree.now in
    let g = meant t.checked in
    let fits = c.node_count-nodes.ensures.is_tree in
    let p = node_at t.tree c.args.node in
    let test = c.if-after-nodes.false in
    let count = c.node_count-nodes.ensures.count in
    let number = number_at g t.tree c.args.node fits c.requires.node in
    let size = c.subtree_size.ensures.size in
    let most = ends_within g t.tree fits p (has_at g t.tree c.args.node fits c.requires.node) in
    record {
      end =
          c.instance_count.ensures.count
          ∙ sym (all_before g t.tree fits)
          ∙ ap (cells_before g t.tree) (omega (arith, test, count, number, size, most));
    }
