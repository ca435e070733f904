use Rattle.std.proofs.Common.{List, ap, subst, sym, ◌∙◌, arith}
use Rattle.std.specs.List.{All}
use Rattle.std.proofs.lemmas.List.Elements.{All-push}
use Rattle.ftl_pool.specs.Count.{Counted}
use Rattle.ftl_pool.specs.Pool.{StealHoldModel, IsFreshStealHoldOf, StealsFromNone}
use Rattle.ftl_pool.proofs.steal_pool.make_holds.Goals as goal

-- one more hold is made
pub loop-preserved : goal.loop-preserved
loop-preserved c =
    let inv = c.loop.invariant in
    let effect = c.another-other.ensures.effect in
    let P = IsFreshStealHoldOf c.args.count.now in record {
      made = c.another-other.ensures.made;
      puts = ap (λ (s : Counted). s.puts) effect ∙ inv.puts;
      takes = ap (λ (s : Counted). s.takes) effect ∙ inv.takes;
      loads = ap (λ (s : Counted). s.loads) effect ∙ inv.loads;
      last = ap (λ (s : Counted). s.last) effect ∙ inv.last;
      spare = omega (
        arith,
        ap (λ (s : Counted). s.spare) effect,
        inv.spare,
        c.loop-test.true,
        c.requires.few,
      );
      holds = omega (arith, c.in_ok-push.ensures.len, inv.holds);
      fresh = subst (All P) (sym {A = List StealHoldModel} c.in_ok-push.ensures.items)
          (All-push P c.loop.holds.items c.in_ok-make_hold.field-0 inv.fresh c.in_ok-make_hold.ensures.fresh);
      others = subst (All StealsFromNone) (sym {A = List StealHoldModel} c.in_ok-push.ensures.items)
          (All-push StealsFromNone c.loop.holds.items c.in_ok-make_hold.field-0 inv.others
          c.in_ok-make_hold.ensures.others);
    }

-- the last hold
pub returns-clause-fresh : goal.returns-clause-fresh
returns-clause-fresh c =
    let P = IsFreshStealHoldOf c.args.count.now in
    subst (All P) (sym {A = List StealHoldModel} c.in_ok-push-2.ensures.items)
    (All-push P c.loop.holds.items c.in_ok-make_hold-2.field-0 c.loop.invariant.fresh
    c.in_ok-make_hold-2.ensures.fresh)
