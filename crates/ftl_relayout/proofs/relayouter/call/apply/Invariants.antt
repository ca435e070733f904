use Rattle.std.proofs.Common.{◌≡◌, take}
use Rattle.ftl_relayout.specs.relayouter.Relaid.{tree_with_edits}
use Rattle.ftl_relayout.proofs.relayouter.call.apply.Given as goal

-- the tree has the edits before this one
abbrev pub invariant-loop-edit : goal.invariant-loop-edit
invariant-loop-edit l = l.tree ≡ tree_with_edits l.fn.tree (take l.edit-index l.edits)
