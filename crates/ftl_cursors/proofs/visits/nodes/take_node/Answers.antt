use Rattle.std.proofs.Common.{◌<◌, arith}
use Rattle.ftl_cursors.proofs.visits.RangeLemmas.{last_is_first}
use Rattle.ftl_cursors.proofs.visits.nodes.take_node.Goals as goal

pub returns-in-Reverse : goal.returns-in-Reverse
returns-in-Reverse c =
    record {
      cases =
          last_is_first c.args.order c.args.nodes.now c.in-Reverse.is
          (let z : 0 < c.args.nodes.now.count = omega arith in z);
    }
