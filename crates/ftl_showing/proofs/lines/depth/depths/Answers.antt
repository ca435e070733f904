use Rattle.std.proofs.Common.{◌∷◌, ◌++◌, [], ◌∙◌, ap, sym, arith, map}
use Rattle.std.specs.List.{range_with_len}
use Rattle.std.proofs.lemmas.List.FromFn.{map-range_with_len_more}
use Rattle.ftl_showing.specs.lines.Lines.{depth_on}
use Rattle.ftl_showing.proofs.lines.depth.depths.Goals as goal

pub loop-node-preserved : goal.loop-node-preserved
loop-node-preserved c =
    let f = depth_on c.args.page.now in
    let n = c.loop-node.node in
    c.in_ok-push.ensures.items
    ∙ (ap (λ xs. xs ++ c.depth.result ∷ []) c.loop-node.invariant
    ∙ (ap (λ d. map f (range_with_len 0 n) ++ d ∷ []) c.depth.ensures.depth
    ∙ sym (map-range_with_len_more f 0 n n (omega arith))))
