use Rattle.std.proofs.Common.{◌<◌, ◌∙◌, [], ap, arith, length, string_bytes}
use Rattle.std.proofs.lemmas.List.FromFn.{length-map-range_with_len}
use Rattle.ftl_model.specs.layout.Tree.{size}
use Rattle.ftl_showing.specs.lines.Lines.{depth_on, tree_line}
use Rattle.ftl_showing.proofs.lines.LineLemmas.{at_number, lines_more}
use Rattle.ftl_showing.proofs.lines.tree.tree_text.Goals as goal

pub bounds-depths-node : goal.bounds-depths-node
bounds-depths-node c =
    let p = c.args.page.now in
    let are = c.as_slice-depths.ensures.value ∙ c.in_ok-depths.ensures.depths in
    let long = ap length are in
    omega (
      arith,
      long,
      length-map-range_with_len (depth_on p) 0 (size p.tree),
      c.loop-node-test.true,
      c.node_count-node-end.ensures.count,
    )

pub push_line-requires-clause-depth : goal.push_line-requires-clause-depth
push_line-requires-clause-depth c =
    let p = c.args.page.now in
    let within : c.loop-node.node < size p.tree =
    omega (arith, c.loop-node-test.true, c.node_count-node-end.ensures.count) in
    at_number (depth_on p) c.as_slice-depths.result.now c.loop-node.node (size p.tree) 0
    (c.as_slice-depths.ensures.value ∙ c.in_ok-depths.ensures.depths) within

pub loop-node-preserved : goal.loop-node-preserved
loop-node-preserved c =
    c.in_ok-push_line.ensures.text
    ∙ lines_more (tree_line c.args.fields c.args.page.now) c.loop-node.node (string_bytes c.loop-node.out) []
    c.loop-node.invariant
