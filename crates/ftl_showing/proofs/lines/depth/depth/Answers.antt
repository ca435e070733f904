use Rattle.std.proofs.Common.{◌+◌, ◌∙◌, ap, sym, arith, length}
use Rattle.std.proofs.lemmas.List.FromFn.{length-map-range_with_len}
use Rattle.ftl_showing.specs.lines.Lines.{depth_on}
use Rattle.ftl_showing.proofs.lines.Depths.{below_parent}
use Rattle.ftl_showing.proofs.lines.LineLemmas.{at_number}
use Rattle.ftl_showing.proofs.lines.depth.depth.Goals as goal

pub bounds-before-parent : goal.bounds-before-parent
bounds-before-parent c =
    let p = c.args.page.now in
    let below = below_parent p.tree c.args.node c.requires.node c.in-Some.parent c.in-Some.ensures.parent in
    let less = below.before in
    let long = ap length c.requires.before in
    omega (arith, less, long, length-map-range_with_len (depth_on p) 0 c.args.node)

pub overflow_add-result : goal.overflow_add-result
overflow_add-result c =
    let p = c.args.page.now in
    let below = below_parent p.tree c.args.node c.requires.node c.in-Some.parent c.in-Some.ensures.parent in
    let less = below.before in
    let bound = below.bound in
    let is = at_number (depth_on p) c.args.before.now c.in-Some.parent c.args.node 0 c.requires.before less in
    omega (arith, is, bound, less, c.ranges.node.fits)

pub returns-in-Some-clause-depth : goal.returns-in-Some-clause-depth
returns-in-Some-clause-depth c =
    let p = c.args.page.now in
    let below = below_parent p.tree c.args.node c.requires.node c.in-Some.parent c.in-Some.ensures.parent in
    ap (λ n. n + 1)
    (at_number (depth_on p) c.args.before.now c.in-Some.parent c.args.node 0 c.requires.before below.before)
    ∙ sym below.depth

pub returns-in-Some-clause-bound : goal.returns-in-Some-clause-bound
returns-in-Some-clause-bound c =
    let p = c.args.page.now in
    let below = below_parent p.tree c.args.node c.requires.node c.in-Some.parent c.in-Some.ensures.parent in
    let less = below.before in
    let bound = below.bound in
    let is = at_number (depth_on p) c.args.before.now c.in-Some.parent c.args.node 0 c.requires.before less in
    omega (arith, is, bound, less)
