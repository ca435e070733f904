use Rattle.std.proofs.Common.{ap, arith}
use Rattle.ftl_pool.specs.Deque.{OwnModel}
use Rattle.ftl_pool.proofs.Putting.{none_put}
use Rattle.ftl_pool.proofs.steal_pool.StealHold.new.Goals as goal

pub invariant_of-result : goal.invariant_of-result
invariant_of-result c =
    let own = c.in_ok-own.ensures.empty in (
      none_put c.args.tally.state c.in_ok-own.own.put (ap (λ (o : OwnModel). o.put) own) c.requires.puts,
      omega (arith, ap (λ (o : OwnModel). o.room) own, c.requires.items),
    )
