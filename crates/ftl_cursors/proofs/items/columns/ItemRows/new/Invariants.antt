use Rattle.std.proofs.Common.{◌≡◌}
use Rattle.ftl_cursors.specs.items.WholeTrees.{is_whole_at}
use Rattle.ftl_cursors.proofs.items.FirstNodes.{EndsAt}
use Rattle.ftl_cursors.proofs.items.RowSteps.{before_to, firsts_to}
use Rattle.ftl_cursors.proofs.items.columns.ItemRows.new.Given as goal

abbrev pub invariant-loop-node : goal.invariant-loop-node
invariant-loop-node l = record {
  firsts : l.firsts.items ≡ firsts_to (is_whole_at l.host l.tree.tree l.grain) l.tree.tree l.node;
  before : l.before.items ≡ before_to (is_whole_at l.host l.tree.tree l.grain) l.tree.tree l.node;
  ends : EndsAt (is_whole_at l.host l.tree.tree l.grain) l.tree.tree l.node l.end;
}
