use Rattle.ftl_cursors.proofs.inorder.KeyedLists.{once_owns}
use Rattle.ftl_cursors.proofs.inorder.SequenceVisits.{sequence_is_done}
use Rattle.ftl_cursors.proofs.inorder.laws.visits_make_sequences.Goals as goal

pub returns : goal.returns
returns c = record {
  sequence = λ g s t law ordered fits stage pass p there.
      sequence_is_done g law s stage pass (once_owns g s ordered stage pass) t fits p there;
}
