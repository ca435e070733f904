use Rattle.ftl_order.specs.orders.LegalOrder.{MustPrecede, turn_of}
use Rattle.ftl_order.specs.orders.Schedule.{placing_of}
use Rattle.ftl_order.proofs.orders.LegalOrders.{placing_of-one_kind}
use Rattle.ftl_order.proofs.orders.Precedence.{precede_chain}
use Rattle.ftl_items.proofs.stage_items.Ahead.{stands_ahead}
use Rattle.ftl_example.specs.orders.EarlyVisits.{is_early}
use Rattle.ftl_example.specs.orders.PlainOrder.{plain_order}
use Rattle.ftl_example.proofs.orders.ReaderFirst.{reader_first}
use Rattle.ftl_example.proofs.orders.EarlyVisits.{early_closed, early_self}
use Rattle.ftl_example.proofs.orders.Parted.{before_early, both_ways, closed_legal, early_kept, parted_free, parted_legal}
use Rattle.ftl_example.proofs.orders.Plain.{plain_legal}
use Rattle.ftl_example.proofs.orders.laws.plain_orders.Goals as goal

pub returns : goal.returns
returns c = record {
  legal = λ g s t law once fits. plain_legal g s t law once fits;
  parted = λ g s t order legal r test tells. (
    parted_legal g t (MustPrecede g t s) order
        (λ i j k. precede_chain (placing_of s) (placing_of-one_kind s) (turn_of g i) (turn_of g j) (turn_of g k))
        legal r test tells,
    parted_free g t (MustPrecede g t s) order
        (λ i j k. precede_chain (placing_of s) (placing_of-one_kind s) (turn_of g i) (turn_of g j) (turn_of g k))
        legal r test tells,
  );
  closed = λ g s t order legal test closed. (
    closed_legal g t (MustPrecede g t s) order legal test closed,
    (λ r w early_r late_w h.
        both_ways (test w) (before_early g t (MustPrecede g t s) order legal test closed w r early_r h) late_w),
    (λ r w early_r early_w before h.
        early_kept g t (MustPrecede g t s) order legal test closed r w early_r early_w (stands_ahead order r w before) h),
  );
  early = λ g s t r law once fits step. (early_closed g s t r law once fits step, early_self g s t r law once fits step);
  free = λ g s t r w law once fits step_r step_w free. (
    closed_legal g t (MustPrecede g t s) (plain_order g s t) (plain_legal g s t law once fits) (is_early g (placing_of s) t r)
        (early_closed g s t r law once fits step_r),
    reader_first g s t law once fits r w step_r step_w free,
  );
}
