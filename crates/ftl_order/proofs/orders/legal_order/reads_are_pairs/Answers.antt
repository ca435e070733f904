use Rattle.std.proofs.Common.{⊎_elim}
use Rattle.ftl_order.proofs.orders.LegalOrders.{computed}
use Rattle.ftl_order.proofs.orders.ReadPairs.{read_pair}
use Rattle.ftl_order.proofs.orders.legal_order.reads_are_pairs.Goals as goal

pub returns : goal.returns
returns c = record {
  pairs = λ g t law fits i j step reads computed.
      ⊎_elim (λ e. absurd (computed e)) (λ f. f) (read_pair g law t fits i j step.0 reads);
}
