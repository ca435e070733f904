use Rattle.std.proofs.Common.{ℕ, List, ap, sym, subst, ◌∷◌, [], arith, length}
use Rattle.std.proofs.lemmas.List.{length-append}
use Rattle.ftl_pool.specs.Count.{Counted, PoolModel}
use Rattle.ftl_pool.specs.Pool.{StealHoldModel, ArePut}
use Rattle.ftl_pool.proofs.Putting.{puts_well}
use Rattle.ftl_pool.proofs.steal_pool.StealPoolReadyPool.put.Goals as goal

pub push-requires : goal.push-requires
push-requires g c = record {
  has_room =
      let well = puts_well c.args.self.now
      record { table = c.hold.inside.tally.table; state = c.hold.inside.tally.state; puts = c.hold.inside.own.put }
      c.args.hold.now.hold c.args.item (ap (λ (h : StealHoldModel). h.hold) c.hold.view_is) c.requires.made
      c.requires.item c.requires.new c.hold.invariant.0 in
      omega (arith, well.fits, c.hold.invariant.1);
}

pub add-requires-clause-few : goal.add-requires-clause-few
add-requires-clause-few g c =
    let well = puts_well c.args.self.now
    record { table = c.hold.inside.tally.table; state = c.hold.inside.tally.state; puts = c.hold.inside.own.put }
    c.args.hold.now.hold c.args.item (ap (λ (h : StealHoldModel). h.hold) c.hold.view_is) c.requires.made
    c.requires.item c.requires.new c.hold.invariant.0 in
    omega (
      arith,
      well.few,
      c.count.ensures.count,
      ap length c.push.ensures.put,
      length-append c.hold.inside.own.put (c.args.item ∷ []),
      ap (λ (p : PoolModel). p.items) c.self.view_is,
    )

pub invariant_of-hold : goal.invariant_of-hold
invariant_of-hold g c =
    let well = puts_well c.args.self.now
    record { table = c.hold.inside.tally.table; state = c.hold.inside.tally.state; puts = c.hold.inside.own.put }
    c.args.hold.now.hold c.args.item (ap (λ (h : StealHoldModel). h.hold) c.hold.view_is) c.requires.made
    c.requires.item c.requires.new c.hold.invariant.0 in (
      subst (λ (x : Counted × List ℕ). ArePut x.0 x.1) (λ i. (sym c.add.ensures.effect i, sym c.push.ensures.put i))
          well.are,
      omega (arith, c.hold.invariant.1, ap (λ (s : Counted). s.items) c.add.ensures.effect, c.push.ensures.room),
    )
