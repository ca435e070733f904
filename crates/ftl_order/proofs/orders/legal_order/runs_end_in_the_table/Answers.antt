use Rattle.ftl_order.proofs.orders.Scheduled.{run_under}
use Rattle.ftl_order.proofs.orders.legal_order.runs_end_in_the_table.Goals as goal

pub returns : goal.returns
returns c = record { solves = λ g s t law ordered fits order legal. run_under g s t law ordered.pairs fits order legal }
