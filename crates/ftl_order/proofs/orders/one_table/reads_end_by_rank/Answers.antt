use Rattle.ftl_order.proofs.orders.TreeEquations.{reads_end_by}
use Rattle.ftl_order.proofs.orders.one_table.reads_end_by_rank.Goals as goal

pub returns : goal.returns
returns c = record { reads_end = λ g t law fits rank falls. reads_end_by g law t fits rank falls }
