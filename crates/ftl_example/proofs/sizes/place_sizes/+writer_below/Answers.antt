use Rattle.std.proofs.Common.{◌≡◌, suc, ◌-◌, Some, [], ◌∷◌, true, false, if◌then◌else◌, ap, ap₂, arith, subst, sym, ◌∙◌}
use Rattle.ftl_deps.specs.reads.Meant.{meant}
use Rattle.ftl_deps.specs.reads.Products.{name_of_info}
use Rattle.ftl_order.specs.orders.Lawful.{class_of_rule}
use Rattle.ftl_example.specs.pairs.PairMeant.{pair_meant}
use Rattle.ftl_example.specs.sizes.Limited.{add, below_size_up_to, kids_size_up_to, reader_size_up_to}
use Rattle.ftl_example.specs.sizes.Place.{reader_or_size, singles_alone, writer_kids}
use Rattle.ftl_example.specs.sizes.SizeTable.{by_table}
use Rattle.ftl_example.proofs.sizes.place_sizes.+writer_below.Goals as goal

pub returns-then-is_for : goal.returns-then-is_for
returns-then-is_for t c =
    let g = meant c.args.checked.now in
    let table = by_table c.args.sizes.now in
    let w = name_of_info c.args.pair.writer in
    let reader = reader_size_up_to 513 g table (pair_meant c.args.pair) in
    let sizes = reader_or_size reader table in
    let n = c.args.children - 1 in
    let k = c.args.pair.writer.class in
    let some = c.if-children-eq0.false in
    let e : suc n ≡ c.args.children = omega (arith, some) in
    record {
      size =
          subst (λ n. c.sum-then-is_for.result ≡ below_size_up_to 513 g sizes (writer_kids g w) k n) e
          (c.sum-then-is_for.ensures.sum
          ∙ ap₂ (add 513)
          (c.sum.ensures.sum
          ∙ ap (λ x. add 513 x (Some 0))
          (c.reader_size.ensures.size ∙ ap reader (ap (λ x. x.interface) c.child-child.ensures.info))
          ∙ ap (λ b. kids_size_up_to 513 sizes (g.child_interface k n)
          (if b then true ∷ [] else singles_alone g false (class_of_rule w) n))
          (sym (sym c.is_for.ensures.for_it ∙ c.if-is_for.true)))
          c.writer_below-before.ensures.size);
    }
