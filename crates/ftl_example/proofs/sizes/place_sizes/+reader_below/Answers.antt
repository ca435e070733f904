use Rattle.std.proofs.Common.{◌≡◌, suc, ◌-◌, ap, ap₂, arith, subst, ◌∙◌}
use Rattle.ftl_deps.specs.reads.Meant.{meant}
use Rattle.ftl_example.specs.pairs.PairMeant.{pair_meant}
use Rattle.ftl_example.specs.sizes.Limited.{add, below_size_up_to, kid_sizes_up_to, kids_size_up_to}
use Rattle.ftl_example.specs.sizes.Place.{reader_kids}
use Rattle.ftl_example.specs.sizes.SizeTable.{by_table}
use Rattle.ftl_example.proofs.sizes.place_sizes.+reader_below.Goals as goal

pub returns : goal.returns
returns t c =
    let g = meant c.args.checked.now in
    let sizes = kid_sizes_up_to 513 g (by_table c.args.sizes.now) in
    let kids = reader_kids g (pair_meant c.args.pair) in
    let some = c.if-children-eq0.false in
    let e : suc (c.args.children - 1) ≡ c.args.children = omega (arith, some) in
    record {
      size =
          subst (λ n. c.sum.result ≡ below_size_up_to 513 g sizes kids c.args.pair.reader.class n) e
          (c.sum.ensures.sum
          ∙ ap₂ (add 513)
          (c.kids_size.ensures.size
          ∙ ap₂ (λ i xs. kids_size_up_to 513 sizes i xs) (ap (λ x. x.interface) c.child-interface.ensures.info)
          c.reader_kids-kids.ensures.kids)
          c.reader_below-before.ensures.size);
    }
