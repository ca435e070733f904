use Rattle.ftl_nests.specs.Hosted.{MustPrecedeWithNests}
use Rattle.ftl_nests.specs.Nests.{nest_placing_of}
use Rattle.ftl_items.proofs.stage_items.Ahead.{stands_ahead}
use Rattle.ftl_example.proofs.orders.Parted.{before_early, both_ways, closed_legal, early_kept}
use Rattle.ftl_example.specs.nests.orders.EarlyWithNests.{is_early_with_nests}
use Rattle.ftl_example.specs.nests.orders.NestOrders.{plain_order_with_nests}
use Rattle.ftl_example.proofs.nests.orders.EarlySteps.{early_closed, early_self}
use Rattle.ftl_example.proofs.nests.orders.ReaderFirst.{plain_legal_with_nests, reader_first}
use Rattle.ftl_example.proofs.nests.orders.laws.plain_orders_with_nests.Goals as goal

pub returns : goal.returns
returns c = record {
  legal = λ g s t law once fits. plain_legal_with_nests g s t law once fits;
  closed = λ g s t order legal test closed. (
    closed_legal g t (MustPrecedeWithNests g t (nest_placing_of s)) order legal test closed,
    (λ r w early_r late_w h.
        both_ways (test w)
        (before_early g t (MustPrecedeWithNests g t (nest_placing_of s)) order legal test closed w r early_r h) late_w),
    (λ r w early_r early_w before h.
        early_kept g t (MustPrecedeWithNests g t (nest_placing_of s)) order legal test closed r w early_r early_w
        (stands_ahead order r w before) h),
  );
  early = λ g s t r law once keeps fits step. (
    early_closed g s t law once keeps fits r step,
    early_self g s t law once keeps fits r step,
  );
  free = λ g s t r w law once keeps fits step_r step_w free. (
    closed_legal g t (MustPrecedeWithNests g t (nest_placing_of s)) (plain_order_with_nests g s t)
        (plain_legal_with_nests g s t law once fits) (is_early_with_nests g (nest_placing_of s) t r)
        (early_closed g s t law once keeps fits r step_r),
    reader_first g s t law once keeps fits r w step_r step_w free,
  );
}
