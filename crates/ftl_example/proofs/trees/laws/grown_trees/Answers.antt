use Rattle.ftl_example.specs.trees.CountedLaws.{last_sizes, last_starts, last_ways}
use Rattle.ftl_example.specs.sizes.SizeTable.{by_table}
use Rattle.ftl_example.proofs.sizes.PlaceTables.{start_cut, table_cut, way_table_cut}
use Rattle.ftl_example.proofs.trees.Counted.{counted_grown}
use Rattle.ftl_example.proofs.trees.ExampleTree.{grows_examples}
use Rattle.ftl_example.proofs.trees.Least.{grows_least_trees}
use Rattle.ftl_example.proofs.trees.laws.grown_trees.Goals as goal

pub returns : goal.returns
returns c = record {
  least = λ g i n law e. grows_least_trees g i n law e;
  examples = λ g pair n law is e. grows_examples g pair n law is e;
  counted = λ g most pair n law is e less.
      counted_grown g law pair is most (by_table (last_sizes g most)) (by_table (last_starts g most pair))
      (by_table (last_ways g most pair)) (table_cut g law most g.interface_count) (start_cut g law most pair is)
      (way_table_cut g law most pair is g.interface_count) n e less;
}
