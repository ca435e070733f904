use Rattle.std.proofs.Common.{arith}
use Rattle.ftl_pool.proofs.Putting.{none_put}
use Rattle.ftl_pool.proofs.flag_pool.FlagHold.new.Goals as goal

pub invariant_of-result : goal.invariant_of-result
invariant_of-result c =
    let p = c.in_ok-puts.ensures in (
      none_put c.args.tally.state c.in_ok-puts.puts.items p.items c.requires.puts,
      omega (arith, c.requires.items, p.capacity),
    )
