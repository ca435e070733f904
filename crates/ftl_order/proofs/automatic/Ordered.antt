-- The automatic schedule is ordered.
use Rattle.std.proofs.Common.{⊎_elim, []}
use Rattle.ftl_model.proofs.lists.Elements.{nothing_in}
use Rattle.ftl_model.specs.layout.AttributeGrammar.{AttributeGrammar}
use Rattle.ftl_order.specs.orders.Lawful.{IsLawful}
use Rattle.ftl_order.specs.orders.Ordered.{IsOrdered}
use Rattle.ftl_order.specs.orders.Schedule.{Schedule, entries}
use Rattle.ftl_order.specs.automatic.Automatic.{IsAutomatic}
use Rattle.ftl_order.specs.automatic.Fitting.{defined_by_reader, written}
use Rattle.ftl_order.proofs.automatic.ChainOrder.{entries_new, reads_met}
use Rattle.ftl_order.proofs.automatic.Lists.{count_once}
use Rattle.ftl_order.proofs.automatic.Targets.{reader_computed}

pub automatic_ordered : (g : AttributeGrammar) (s : Schedule) → IsLawful g → IsAutomatic g s → IsOrdered g s
automatic_ordered g s law h =
    record {
      once = λ a known computed.
          count_once (entries s) a (entries_new g [] s h.chain).distinct (h.whole a (known, computed));
      pairs = λ pair is.
          ⊎_elim (λ none. absurd (nothing_in (written g pair) none)) (λ ordered. ordered)
          (reads_met g [] s h.chain pair is (h.whole (defined_by_reader g pair) (reader_computed g law pair is)));
    }
