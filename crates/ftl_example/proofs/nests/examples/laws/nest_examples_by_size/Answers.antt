use Rattle.ftl_example.proofs.nests.examples.BySize.{by_size}
use Rattle.ftl_example.proofs.nests.examples.laws.nest_examples_by_size.Goals as goal

pub returns : goal.returns
returns c = record {
  by_size = λ g s pair most law once keeps is unordered. by_size g s law once keeps pair most is unordered;
}
