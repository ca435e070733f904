use Rattle.std.proofs.Common.{◌++◌, [], ◌∷◌, ap, ap₂, arith, sym, ◌∙◌}
use Rattle.std.proofs.lemmas.List.FromFn.{map-range_with_len_more}
use Rattle.ftl_deps.specs.reads.Meant.{meant}
use Rattle.ftl_example.specs.sizes.Least.{best_up_to}
use Rattle.ftl_example.specs.sizes.SizeTable.{by_table}
use Rattle.ftl_example.proofs.sizes.rounds.next_sizes.Goals as goal

pub loop-interface-preserved : goal.loop-interface-preserved
loop-interface-preserved c =
    let g = meant c.args.checked.now in
    let table = by_table c.args.sizes.now in
    let n = c.loop-interface.interface in
    c.in_ok-push.ensures.items
    ∙ ap₂ (λ xs x. xs ++ x ∷ []) c.loop-interface.invariant
    (c.best.ensures.best ∙ ap (best_up_to 513 g table n) c.class_count.ensures.count)
    ∙ sym (map-range_with_len_more (λ i. best_up_to 513 g table i g.class_count) 0 n n (omega arith))
