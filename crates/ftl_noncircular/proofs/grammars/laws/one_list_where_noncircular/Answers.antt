use Rattle.ftl_model.specs.layout.Table.{instance_count}
use Rattle.ftl_order.proofs.orders.OneList.{one_list_by}
use Rattle.ftl_order.proofs.orders.TreeEquations.{one_table_by}
use Rattle.ftl_noncircular.proofs.grammars.NoncircularTrees.{reads_end}
use Rattle.ftl_noncircular.proofs.grammars.laws.one_list_where_noncircular.Goals as goal

pub returns : goal.returns
returns c = record {
  one_list = λ g t law noncircular fits. one_list_by g law t fits
      (one_table_by g law t fits (λ i. instance_count g t) (reads_end g t law noncircular fits));
}
