use Rattle.std.proofs.Common.{◌≡◌, ◌+◌, ◌++◌, ◌∷◌, [], ap₂, arith, sym, ◌∙◌}
use Rattle.ftl_tree.proofs.rows.KidRows.{range-next}
use Rattle.ftl_tree.proofs.rows.sizes.own_ends.Goals as goal

pub loop-node-preserved : goal.loop-node-preserved
loop-node-preserved c =
    let one : c.loop-node.node + 1 ≡ 1 + c.loop-node.node = omega arith in
    c.in_ok-push.ensures.items ∙ ap₂ (λ ys m. ys ++ m ∷ []) c.loop-node.invariant one ∙ sym (range-next 1 c.loop-node.node)
