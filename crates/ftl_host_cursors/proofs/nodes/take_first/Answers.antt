use Rattle.ftl_host_cursors.proofs.NodeLemmas.{last_is_first}
use Rattle.ftl_host_cursors.proofs.nodes.take_first.Goals as goal

pub returns-in-Reverse : goal.returns-in-Reverse
returns-in-Reverse c = record { first = last_is_first c.args.nodes.now c.in-Reverse.is c.requires.some }
