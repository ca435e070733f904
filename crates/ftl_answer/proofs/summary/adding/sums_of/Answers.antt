use Rattle.std.proofs.Common.{◌≡◌, ℕ, List, ◌++◌, length, ap, subst, arith}
use Rattle.ftl_tree.specs.boxes.Shows.{node_shows}
use Rattle.ftl_answer.specs.summary.Summed.{AreSumsOf, values_of}
use Rattle.ftl_answer.proofs.summary.Nodes.{node_more, nodes_all}
use Rattle.ftl_answer.proofs.summary.adding.sums_of.Goals as goal

pub loop-node-preserved : goal.loop-node-preserved
loop-node-preserved c =
    let t = c.args.tree.now in
    let words = c.args.words.now in
    let n = c.loop-node.node in
    let count = c.with_node-sums.ensures.shown in
    let long : length c.shown_by.result.now ≡ length (node_shows t n) =
    ap (λ (xs : List ℕ). length xs) c.shown_by.ensures.shown in
    let few = c.shows_few.ensures.few in
    let before = c.loop-node.invariant.few in
    record {
      are = node_more t words n c.loop-node.sums c.with_node-sums.result c.node_count-node-end.ensures.is_tree
          (omega (arith, c.node_count-node-end.ensures.count)) c.loop-node.invariant
          (λ values are.
          subst (λ (xs : List ℕ). AreSumsOf (values ++ values_of t words n xs) c.with_node-sums.result)
          c.shown_by.ensures.shown (c.with_node-sums.ensures.more values are));
      within = c.with_node-sums.ensures.within;
      few = omega (arith, count, long, few, before);
    }

pub returns : goal.returns
returns c = record {
  sums =
      nodes_all c.args.tree.now c.args.words.now c.loop-node.node c.loop-node.sums
      c.node_count-node-end.ensures.is_tree (omega (arith, c.node_count-node-end.ensures.count)) c.loop-node.invariant;
}
