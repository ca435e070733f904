use Rattle.std.proofs.Common.{refl, sym, vec_len, arith}
use Rattle.ftl_pool.specs.Pool.{StealFromOthers}
use Rattle.ftl_pool.proofs.Thieves.{none_given, all_given, all_have}
use Rattle.ftl_pool.proofs.steal_pool.add_thieves.Goals as goal

pub loop-worker-init : goal.loop-worker-init
loop-worker-init c = record {
  workers = sym c.len-workers.ensures;
  same = refl;
  fresh = c.requires.fresh;
  own = refl;
  given = none_given c.args.holds.now.items c.requires.others;
}

pub returns-clause-deques : goal.returns-clause-deques
returns-clause-deques c =
    let inv = c.loop-worker.invariant in
    let holds = c.loop-worker.holds.items in
    let others : StealFromOthers holds = all_given holds _ c.loop-worker.worker inv.own
    (omega (arith, inv.workers, c.loop-worker-test.false)) inv.given in
    all_have c.args.count.now holds (vec_len c.loop-worker.holds) (omega (arith)) inv.fresh others
