use Rattle.ftl_deps.proofs.reads.RowLaws.{rows_are, writers_are}
use Rattle.ftl_deps.proofs.reads.laws.rows_are_of_rules.Goals as goal

pub returns : goal.returns
returns c = record {
  reads = rows_are;
  writers = writers_are;
}
