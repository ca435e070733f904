use Rattle.std.proofs.Common.{◌≡◌, ℕ, suc, ◌+◌, ◌-◌, subst, ap, ◌∙◌, arith}
use Rattle.ftl_pool.specs.Count.{Counted, IsMoment, after_load, after_take}
use Rattle.ftl_pool.proofs.count.Count.take.Goals as goal

pub returns-then-take_from-clause-effect : goal.returns-then-take_from-clause-effect
returns-then-take_from-clause-effect g c =
    let count : ℕ = c.load-count.result in
    let some_left : count ≡ suc (count - 1) = omega (arith, c.if-count-eq0.false) in
    let is : c.take_from.new.tally.state ≡ after_take (after_load c.loop.tally.state count) =
    c.if-take_from.ensures.effect ∙ ap after_take c.load-count.ensures.effect in record {
      puts = ap (λ (s : Counted). s.puts) is ∙ c.loop.invariant.puts;
      takes = ap (λ (s : Counted). s.takes) is ∙ ap (λ (x : ℕ). x + 1) c.loop.invariant.takes;
      loads = omega (arith, ap (λ (s : Counted). s.loads) is, c.loop.invariant.loads);
      left = count - 1;
      before = c.loop.tally.state;
      moment = subst (λ (n : ℕ). IsMoment n c.loop.tally.state) some_left c.load-count.ensures.moment;
      is = is ∙ ap (λ (n : ℕ). after_take (after_load c.loop.tally.state n)) some_left;
    }
