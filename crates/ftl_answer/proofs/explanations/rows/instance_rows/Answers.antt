use Rattle.std.proofs.Common.{ap, ◌++◌, ◌∙◌, arith}
use Rattle.ftl_answer.proofs.explanations.InstanceRows.{rows_all, rows_more}
use Rattle.ftl_answer.specs.explanations.Rows.{attributes_at, node_rows}
use Rattle.ftl_answer.proofs.explanations.rows.instance_rows.Goals as goal

pub loop-node-preserved : goal.loop-node-preserved
loop-node-preserved c =
    let t = c.args.tree.now in
    let n = c.loop-node.node in
    c.in_ok-add_node.ensures.added
    ∙ ap (λ rows. rows ++ node_rows n (attributes_at t n)) c.loop-node.invariant
    ∙ rows_more t c.node_count-node-end.ensures.is_tree n (omega (arith, c.node_count-node-end.ensures.count))

pub returns : goal.returns
returns c = record {
  rows =
      c.loop-node.invariant
      ∙ rows_all c.args.tree.now c.node_count-node-end.ensures.is_tree c.loop-node.node
      (omega (arith, c.node_count-node-end.ensures.count));
}
