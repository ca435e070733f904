use Rattle.std.proofs.Common.{ap, ap₂, ◌∙◌}
use Rattle.ftl_deps.specs.reads.Meant.{meant}
use Rattle.ftl_example.specs.pairs.PairMeant.{pair_meant}
use Rattle.ftl_example.specs.sizes.PlaceTable.{start_table, ways_after}
use Rattle.ftl_example.specs.trees.CountedLaws.{last_sizes, last_starts}
use Rattle.ftl_example.proofs.trees.tables.Tables.new.Goals as goal

pub returns : goal.returns
returns c =
    let g = meant c.args.checked.now in
    let pair = pair_meant c.args.pair in
    let sizes = c.deref.ensures.value ∙ c.in_ok-sizes.ensures.sizes in
    let starts = c.in_ok-starts.ensures.sizes ∙ ap (start_table g 513 pair) sizes in
    record {
      tables = record {
        sizes = c.in_ok-sizes.ensures.sizes;
        starts = starts;
        ways =
            c.in_ok-ways.ensures.sizes
            ∙ ap₂ (λ x y. ways_after g 513 x y c.interface_count.result)
            (c.deref-2.ensures.value ∙ c.in_ok-sizes.ensures.sizes) (c.deref-3.ensures.value ∙ starts)
            ∙ ap (ways_after g 513 (last_sizes g 513) (last_starts g 513 pair)) c.interface_count.ensures.count;
      };
    }
