use Rattle.std.proofs.Common.{refl, sym}
use Rattle.ftl_deps.specs.reads.Meant.{meant}
use Rattle.ftl_model.specs.layout.Path.{node_at, size_at}
use Rattle.ftl_tree.proofs.rows.Access.{number_at}
use Rattle.ftl_example.proofs.examples.NodeNumbers.{over_earlier, over_later}
use Rattle.ftl_example.proofs.examples.early_steps.is_over.Goals as goal

pub returns-then-above-node : goal.returns-then-above-node
returns-then-above-node c =
    let g = meant c.args.tree.now.checked in
    let t = c.args.tree.now.tree in
    let fits = c.node_count-nodes.ensures.is_tree in
    record {
      over =
          over_later t (node_at t c.args.above) (node_at t c.args.node) c.args.above c.args.node c.subtree_size.result
          (number_at g t c.args.above fits c.requires.above) (number_at g t c.args.node fits c.requires.node)
          (sym c.subtree_size.ensures.size) c.if-above-node.true;
    }

pub returns-else-above-node : goal.returns-else-above-node
returns-else-above-node c =
    let g = meant c.args.tree.now.checked in
    let t = c.args.tree.now.tree in
    let fits = c.node_count-nodes.ensures.is_tree in
    record {
      over =
          over_earlier t (node_at t c.args.above) (node_at t c.args.node) c.args.above c.args.node
          (size_at t (node_at t c.args.above)) (number_at g t c.args.above fits c.requires.above)
          (number_at g t c.args.node fits c.requires.node) refl c.if-above-node.false;
    }
