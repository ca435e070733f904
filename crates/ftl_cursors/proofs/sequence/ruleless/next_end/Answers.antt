use Rattle.std.proofs.Common.{subst}
use Rattle.ftl_cursors.specs.classes.ClassSets.{HasClass}
use Rattle.ftl_cursors.proofs.sequence.RulelessNodes.{block_ruleless, one_ruleless}
use Rattle.ftl_cursors.proofs.sequence.ruleless.next_end.Goals as goal

pub returns-then-tables-node-eq0-clause-nodes : goal.returns-then-tables-node-eq0-clause-nodes
returns-then-tables-node-eq0-clause-nodes c =
    block_ruleless c.args.tables c.requires.tables c.args.node c.if-tables-node-eq0.true

pub returns-then-with_class-tables-eq0-clause-nodes : goal.returns-then-with_class-tables-eq0-clause-nodes
returns-then-with_class-tables-eq0-clause-nodes c =
    one_ruleless c.args.tables c.requires.tables c.args.node c.with_class.result
    (subst (HasClass c.with_class.result) c.class.ensures.class c.with_class.ensures.has)
    c.if-with_class-tables-eq0.true
