use Rattle.ftl_cursors.proofs.visits.TargetLemmas.{steps_of_tree, targets_of_nodes}
use Rattle.ftl_cursors.proofs.visits.VisitLemmas.{visits_of_classes}
use Rattle.ftl_cursors.proofs.visits.laws.visits_make_steps.Goals as goal

pub returns : goal.returns
returns c = record {
  visits = λ g law kind other attributes. visits_of_classes g law kind other attributes;
  steps = λ g law kind other attributes t fits nodes within.
      steps_of_tree g law kind other attributes t fits nodes within;
  targets = λ g law kind other attributes t fits nodes within.
      targets_of_nodes g law kind other attributes t fits nodes within;
}
