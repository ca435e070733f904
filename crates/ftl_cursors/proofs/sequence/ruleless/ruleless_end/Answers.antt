use Rattle.ftl_cursors.proofs.sequence.RulelessNodes.{more_ruleless, none_ruleless}
use Rattle.ftl_cursors.proofs.sequence.ruleless.ruleless_end.Goals as goal

pub search-init : goal.search-init
search-init c = none_ruleless c.args.tables c.args.node

pub search-preserved : goal.search-preserved
search-preserved c =
    more_ruleless c.args.tables c.args.node c.search.end c.next_end-next.result c.search.invariant
    c.next_end-next.ensures.nodes
