use Rattle.ftl_cursors.proofs.inorder.SequenceKids.{goes_kid_by_kid}
use Rattle.ftl_cursors.proofs.inorder.laws.sequences_by_kids.Goals as goal

pub returns : goal.returns
returns c = record { kids = λ g at x t fits p there. goes_kid_by_kid g at x t fits p there }
