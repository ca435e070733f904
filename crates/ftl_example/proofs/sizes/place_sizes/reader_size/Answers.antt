use Rattle.std.proofs.Common.{ap, sym, ◌∙◌}
use Rattle.ftl_deps.specs.reads.Meant.{meant}
use Rattle.ftl_example.specs.pairs.PairMeant.{pair_meant}
use Rattle.ftl_example.specs.sizes.Limited as limited
use Rattle.ftl_example.specs.sizes.Place as place
use Rattle.ftl_example.specs.sizes.SizeTable.{by_table}
use Rattle.ftl_example.proofs.pairs.InfoClass.{class_is}
use Rattle.ftl_example.proofs.sizes.place_sizes.reader_size.Goals as goal

pub returns : goal.returns
returns c =
    let g = meant c.args.checked.now in
    record {
      size =
          c.reader_node_size.ensures.size
          ∙ ap (λ k. limited.wanted_size_up_to 513 g (limited.kid_sizes_up_to 513 g (by_table c.args.sizes.now))
          (place.reader_kids g (pair_meant c.args.pair)) k c.args.interface) (sym (class_is c.args.pair.reader));
    }
