use Rattle.std.proofs.Common.{◌++◌, [], ◌∷◌, ap, ap₂, arith, sym, ◌∙◌}
use Rattle.std.proofs.lemmas.List.FromFn.{map-range_with_len_more}
use Rattle.ftl_deps.specs.reads.Meant.{meant}
use Rattle.ftl_example.specs.sizes.Least.{lesser}
use Rattle.ftl_example.specs.sizes.Limited.{best_way_up_to}
use Rattle.ftl_example.specs.sizes.SizeTable.{by_table}
use Rattle.ftl_example.proofs.sizes.way_rounds.next_ways.Goals as goal

pub loop-interface-preserved : goal.loop-interface-preserved
loop-interface-preserved c =
    let g = meant c.args.checked.now in
    let sizes = by_table c.args.sizes.now in
    let starts = by_table c.args.starts.now in
    let before = by_table c.args.before.now in
    let n = c.loop-interface.interface in
    c.in_ok-push.ensures.items
    ∙ ap₂ (λ xs x. xs ++ x ∷ []) c.loop-interface.invariant
    (c.lesser.ensures.lesser
    ∙ ap₂ lesser c.size_at.ensures.size
    (c.best_way-way.ensures.best ∙ ap (best_way_up_to 513 g sizes before n) c.class_count.ensures.count))
    ∙ sym (map-range_with_len_more (λ i. lesser (starts i) (best_way_up_to 513 g sizes before i g.class_count)) 0 n n (omega arith))
