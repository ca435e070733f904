use Rattle.std.proofs.Common.{arith}
use Rattle.ftl_model.specs.layout.Worked.{numbers}
use Rattle.ftl_order.proofs.orders.Ranges.{above_range, range_above}
use Rattle.ftl_order.proofs.orders.numbers.subtree_ranges.Goals as goal

pub returns : goal.returns
returns c = record {
  ranges = λ t p q hp hq. (
    (λ above. let r = above_range t p q hq above in let first = r.0 in let last = r.1 in
        (first, omega (arith, last))),
    range_above t p q hp hq,
  );
}
