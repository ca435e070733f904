use Rattle.ftl_nests.proofs.FlatLaws.{flat_order_legal, one_table, order_exists, run_ends, writer_stands_before}
use Rattle.ftl_nests.proofs.laws.legal_orders_with_nests.Goals as goal

pub returns : goal.returns
returns c = record {
  exists = λ g s t law ordered fits. order_exists g s law ordered t fits;
  before = λ g s t law ordered fits. writer_stands_before g s law ordered t fits;
  flat = λ g s t law ordered fits. flat_order_legal g s law ordered.once t fits;
  one_table = λ g s t law ordered fits. one_table g s law ordered t fits;
  solves = λ g s t law ordered fits. run_ends g s law ordered t fits;
}
