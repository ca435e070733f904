use Rattle.ftl_document.proofs.faults.InstanceCounts.{instances_counted}
use Rattle.ftl_document.proofs.faults.RightTrees.{faultless_is_tree}
use Rattle.ftl_document.proofs.faults.laws.faultless_documents_are_trees.Goals as goal

pub returns : goal.returns
returns c = record {
  tree = λ g greatest node lawful fine within. faultless_is_tree greatest g lawful node fine within;
  instances = instances_counted;
}
