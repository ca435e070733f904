-- Edits of inputs, written into a list of values: what they say of trees with another input is proved.
use Rattle.ftl_model.specs.lists.Lists.{place_in}
use Rattle.ftl_model.specs.layout.AttributeGrammar.{class_inputs}
use Rattle.ftl_model.specs.layout.Path.{class_at, node_at}
use Rattle.ftl_model.specs.layout.WithInput.{changed}
use Rattle.ftl_relayout.specs.laws.Edits.{EditsAreWritten}
use Rattle.ftl_relayout.proofs.laws.Edited.{StayTrees, edits_are_written}
use Rattle.ftl_tree.proofs.trees.Changed.{keeps_lengths, keeps_width, tree-changed}
use Rattle.ftl_tree.proofs.trees.OneInput.{changes_one}

pub stay_trees : StayTrees
stay_trees g t n a z at fits =
    let place = place_in (class_inputs g (class_at t (node_at t n))) a in
    tree-changed (changed n place z) g (keeps_lengths n place z) (keeps_width n place z g.greatest fits) t at.is_tree

pub edits_written : EditsAreWritten
edits_written = edits_are_written changes_one stay_trees
