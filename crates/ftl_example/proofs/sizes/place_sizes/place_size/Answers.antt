use Rattle.std.proofs.Common.{ap, sym, ◌∙◌}
use Rattle.ftl_deps.specs.reads.Meant.{meant}
use Rattle.ftl_deps.specs.reads.Products.{name_of_info}
use Rattle.ftl_example.specs.pairs.PairMeant.{pair_meant, where_meant}
use Rattle.ftl_example.specs.sizes.Limited as limited
use Rattle.ftl_example.specs.sizes.Place as place
use Rattle.ftl_example.specs.sizes.SizeTable.{by_table}
use Rattle.ftl_example.proofs.pairs.InfoClass.{class_is}
use Rattle.ftl_example.proofs.sizes.place_sizes.place_size.Goals as goal

pub returns-in-Parent : goal.returns-in-Parent
returns-in-Parent c =
    let g = meant c.args.checked.now in
    let pair = pair_meant c.args.pair in
    let table = by_table c.args.sizes.now in
    record {
      size =
          c.writer_size.ensures.size
          ∙ ap (λ k. limited.wanted_size_up_to 513 g
          (place.reader_or_size (limited.reader_size_up_to 513 g table pair) table)
          (place.writer_kids g (name_of_info c.args.pair.writer)) k c.args.interface) (sym (class_is c.args.pair.writer))
          ∙ ap (λ n. limited.place_size_up_to 513 g table (where_meant n) pair c.args.interface) (sym c.in-Parent.is);
    }
