use Rattle.ftl_tree.proofs.trees.OneInput.{changes_one}
use Rattle.ftl_tree.proofs.trees.laws.one_input_changes.Goals as goal

pub returns : goal.returns
returns c = record { one = changes_one }
