use Rattle.ftl_cursors.proofs.inorder.KeyedLists.{once_owns}
use Rattle.ftl_cursors.proofs.inorder.InorderStepLemmas.{steps_of_tree}
use Rattle.ftl_cursors.proofs.inorder.InorderTargets.{steps_of_pass}
use Rattle.ftl_cursors.proofs.inorder.laws.inorder_steps_make_sequences.Goals as goal

pub returns : goal.returns
returns c = record {
  tree = λ g t law fits attributes. steps_of_tree g law t fits attributes;
  steps = λ g s t law ordered fits stage pass. steps_of_pass g law s stage pass (once_owns g s ordered stage pass) t fits;
}
