use Rattle.std.proofs.Common.{length}
use Rattle.ftl_lots.proofs.words.copying.+copy_in+fn-copy_in-join_mut+arg2+fn-copy_in-join_mut+arg3.Given as goal

abbrev pub decreases-copy_in : goal.decreases-copy_in
decreases-copy_in g l = length l.parts.now

abbrev pub decreases-join_mut+arg2 : goal.decreases-join_mut+arg2
decreases-join_mut+arg2 g l = length l.front.now

abbrev pub decreases-join_mut+arg3 : goal.decreases-join_mut+arg3
decreases-join_mut+arg3 g l = length l.back.now
