use Rattle.ftl_document.proofs.faults.WrittenFaultless.{written_right, written_within}
use Rattle.ftl_document.proofs.faults.WrittenTrees.{tree_back}
use Rattle.ftl_document.proofs.faults.laws.trees_are_written.Goals as goal

pub returns : goal.returns
returns c = record {
  tree = λ g greatest t lawful is. tree_back g lawful greatest t is;
  right = λ g greatest t lawful is. written_right g lawful greatest t is;
  within = λ g greatest t lawful is. written_within g lawful greatest t is;
}
