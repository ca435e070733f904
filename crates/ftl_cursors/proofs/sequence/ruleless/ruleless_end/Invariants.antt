use Rattle.std.proofs.Common.{◌-◌}
use Rattle.ftl_model.specs.layout.Tree.{size}
use Rattle.ftl_cursors.specs.sequence.Places.{tree_of}
use Rattle.ftl_cursors.specs.sequence.SparsePlaces.{HaveNoRulesIn}
use Rattle.ftl_cursors.proofs.sequence.ruleless.ruleless_end.Given as goal

abbrev pub invariant-search : goal.invariant-search
invariant-search l = HaveNoRulesIn l.tables l.node l.end

abbrev pub decreases-search : goal.decreases-search
decreases-search l = size (tree_of l.tables.all) - l.end
