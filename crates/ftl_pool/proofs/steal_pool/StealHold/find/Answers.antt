use Rattle.std.proofs.Common.{◌∙◌, arith}
use Rattle.ftl_pool.proofs.Taking.{all_more_outside}
use Rattle.ftl_pool.proofs.steal_pool.StealHold.find.Goals as goal

-- an item that is none of the pool's is looked past
pub loop-preserved-else-item-items : goal.loop-preserved-else-item-items
loop-preserved-else-item-items g c = record {
  can = tt;
  finite = tt;
  hold = c.find_once-found.ensures.hold ∙ c.loop.invariant.hold;
  deques = (
    c.find_once-found.ensures.deques.0 ∙ c.loop.invariant.deques.0,
    c.find_once-found.ensures.deques.1 ∙ c.loop.invariant.deques.1,
  );
  outside = all_more_outside c.args.items c.in-Some-found.item c.args.self.now.taken c.loop.self.taken
      c.find_once-found.new.self.taken (omega (arith, c.if-item-items.false)) c.loop.invariant.outside
      c.in-Some-found.ensures.taken;
}
