use Rattle.std.proofs.Common.{rules, ℕ, List, ap, sym, subst, ◌≡◌, ◌++◌, ◌∷◌, [], arith}
use Rattle.ftl_pool.specs.Count.{Counted, PoolModel}
use Rattle.ftl_pool.specs.Pool.{ArePut}
use Rattle.ftl_pool.proofs.Putting.{puts_well}
use Rattle.ftl_pool.proofs.flag_pool.FlagPoolReadyPool.put.Goals as goal

pub unwrap-requires : goal.unwrap-requires
unwrap-requires g c =
    let well = puts_well c.args.self.now
    record { table = c.hold.inside.tally.table; state = c.hold.inside.tally.state; puts = c.hold.inside.puts.items }
    c.args.hold.now c.args.item c.hold.view_is c.requires.made c.requires.item c.requires.new c.hold.invariant.0 in
    c.push.ensures.succeeds (omega (arith, well.fits, c.hold.invariant.1))

pub add-requires-clause-few : goal.add-requires-clause-few
add-requires-clause-few g c =
    let well = puts_well c.args.self.now
    record { table = c.hold.inside.tally.table; state = c.hold.inside.tally.state; puts = c.hold.inside.puts.items }
    c.args.hold.now c.args.item c.hold.view_is c.requires.made c.requires.item c.requires.new c.hold.invariant.0 in
    let few = well.few in
    let same = ap (λ (p : PoolModel). p.items) c.self.view_is in search rules

pub invariant_of-hold : goal.invariant_of-hold
invariant_of-hold g c =
    let well = puts_well c.args.self.now
    record { table = c.hold.inside.tally.table; state = c.hold.inside.tally.state; puts = c.hold.inside.puts.items }
    c.args.hold.now c.args.item c.hold.view_is c.requires.made c.requires.item c.requires.new c.hold.invariant.0 in
    let items : c.push.new.self.items ≡ c.hold.inside.puts.items ++ c.args.item ∷ [] = search rules in (
      subst (λ (x : Counted × List ℕ). ArePut x.0 x.1) (λ i. (sym c.add.ensures.effect i, sym items i)) well.are,
      omega (
        arith,
        c.hold.invariant.1,
        ap (λ (s : Counted). s.items) c.add.ensures.effect,
        c.push.ensures.capacity,
      ),
    )
