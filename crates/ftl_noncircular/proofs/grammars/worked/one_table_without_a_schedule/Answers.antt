use Rattle.ftl_model.specs.layout.Table.{instance_count}
use Rattle.ftl_order.proofs.orders.TreeEquations.{one_table_by}
use Rattle.ftl_noncircular.specs.grammars.Worked.{framed, twisted}
use Rattle.ftl_noncircular.proofs.grammars.NoncircularTrees.{reads_end}
use Rattle.ftl_noncircular.proofs.grammars.WorkedLevels.{twisted_lawful, twisted_noncircular}
use Rattle.ftl_noncircular.proofs.grammars.WorkedUnordered.{twisted_unordered}
use Rattle.ftl_noncircular.proofs.grammars.worked.one_table_without_a_schedule.Goals as goal

pub returns : goal.returns
returns c = record {
  unordered = λ s ordered. twisted_unordered s ordered;
  one_table = λ t fits.
      one_table_by (framed twisted) twisted_lawful t fits (λ i. instance_count (framed twisted) t)
      (reads_end (framed twisted) t twisted_lawful twisted_noncircular fits);
}
