use Rattle.ftl_example.proofs.sizes.PlaceTables.{way_table_cut}
use Rattle.ftl_example.proofs.sizes.Tables.{tables_are_sizes}
use Rattle.ftl_example.proofs.sizes.laws.tables_of_sizes.Goals as goal

pub returns : goal.returns
returns c = record {
  sizes = λ g most k i law below. tables_are_sizes g most k i law below;
  examples = λ g most pair law is. way_table_cut g law most pair is g.interface_count g.root;
}
