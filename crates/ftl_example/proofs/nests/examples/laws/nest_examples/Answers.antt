use Rattle.ftl_nests.specs.Nests.{nest_placing_of}
use Rattle.ftl_example.proofs.nests.examples.ShownOrdered.{shown_nest_ordered}
use Rattle.ftl_example.proofs.nests.examples.laws.nest_examples.Goals as goal

pub returns : goal.returns
returns c = record {
  ordered = λ g s t pair r w law fits is shows must. shown_nest_ordered g law (nest_placing_of s) t fits pair is r w shows must;
}
