use Rattle.std.proofs.Common.{⊎_elim}
use Rattle.ftl_order.specs.orders.Schedule.{placing_of}
use Rattle.ftl_order.proofs.orders.LegalOrders.{computed}
use Rattle.ftl_order.proofs.orders.DirectPrecedence.{reads_direct}
use Rattle.ftl_order.proofs.orders.Scheduled.{precedes_under}
use Rattle.ftl_order.proofs.orders.legal_order.ordered_reads.Goals as goal

pub returns : goal.returns
returns c = record {
  direct = λ g s t law ordered fits i j step reads computed.
      ⊎_elim (λ e. absurd (computed e)) (λ near. near)
      (reads_direct g law (placing_of s) t fits ordered.pairs i j step.0 reads);
  precede = λ g s t law ordered fits i j step reads computed. precedes_under g s t law ordered.pairs fits i j step reads computed;
}
