use Rattle.ftl_cursors.proofs.sequence.RulelessNodes.{none_ruleless}
use Rattle.ftl_cursors.proofs.sequence.sparse.SparseSequenceCursor.new.Goals as goal

pub invariant_of-result : goal.invariant_of-result
invariant_of-result c = (c.requires.tables, none_ruleless c.args.tables 0, c.start_place-at.ensures.place)
