use Rattle.std.proofs.Common.{◌-◌}
use Rattle.ftl_noncircular.specs.search.Pairs.{AreSearchedTo}
use Rattle.ftl_noncircular.proofs.search.pairs.put_all.Given as goal

abbrev pub ghost-put_everywhere : goal.ghost-put_everywhere
ghost-put_everywhere g a = g.g

abbrev pub invariant-loop-next : goal.invariant-loop-next
invariant-loop-next g l = AreSearchedTo g.g l.shape l.classes l.list l.next

abbrev pub decreases-loop-next : goal.decreases-loop-next
decreases-loop-next g l = 18446744073709551616 - l.next
