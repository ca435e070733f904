use Rattle.std.proofs.Common.{◌+◌, ◌++◌, ◌∷◌, [], ap, append_assoc, sym, ◌∙◌}
use Rattle.std.specs.List.{range_with_len}
use Rattle.ftl_tree.proofs.rows.KidRows.{range-next}
use Rattle.ftl_tree.proofs.trees.class_places.add_run.Goals as goal

pub loop-k-preserved : goal.loop-k-preserved
loop-k-preserved c =
    let before = c.args.places.now.items in
    let first = c.args.first in
    let k = c.loop-k.k in
    c.in_ok-push.ensures.items
    ∙ ap (λ xs. xs ++ (first + k) ∷ []) c.loop-k.invariant
    ∙ append_assoc before (range_with_len first k) ((first + k) ∷ [])
    ∙ ap (λ xs. before ++ xs) (sym (range-next first k))
