use Rattle.ftl_cursors.proofs.inorder.StepKids.{steps_kid_by_kid}
use Rattle.ftl_cursors.proofs.inorder.laws.inorder_steps_by_kids.Goals as goal

pub returns : goal.returns
returns c = record { kids = λ g t fits attributes p there. steps_kid_by_kid g t fits attributes p there }
