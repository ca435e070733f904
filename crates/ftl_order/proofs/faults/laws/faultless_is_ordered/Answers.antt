use Rattle.std.proofs.Common.{[]}
use Rattle.std.specs.Option.{option_or}
use Rattle.ftl_model.proofs.lists.FirstAlong.{neither, or_none}
use Rattle.ftl_order.specs.orders.Schedule.{entries, placing_of}
use Rattle.ftl_order.specs.faults.FirstFault.{first_missing, first_twice, first_unordered}
use Rattle.ftl_order.proofs.faults.Entries.{none_is_missing, none_is_twice, stands_once}
use Rattle.ftl_order.proofs.faults.Pairs.{none_unordered, pairs_ordered}
use Rattle.ftl_order.proofs.faults.laws.faultless_is_ordered.Goals as goal

pub returns : goal.returns
returns c = record {
  ordered = λ g s law known. (
    (λ e.
        let a = neither (first_twice [] (entries s)) (option_or (first_missing g (entries s))
        (first_unordered g (placing_of s))) e in
        let b = neither (first_missing g (entries s)) (first_unordered g (placing_of s)) a.later in
        record {
          once = stands_once g s a.first b.first;
          pairs = pairs_ordered g (placing_of s) law b.later;
        }),
    (λ o.
        or_none (first_twice [] (entries s)) (option_or (first_missing g (entries s)) (first_unordered g (placing_of s)))
        (none_is_twice g s known o.once)
        (or_none (first_missing g (entries s)) (first_unordered g (placing_of s)) (none_is_missing g s o.once)
        (none_unordered g (placing_of s) law o.pairs))),
  );
}
