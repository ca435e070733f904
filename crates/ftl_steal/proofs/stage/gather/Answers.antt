use Rattle.std.proofs.Common.{rules, Option, length, ◌≡◌, ◌∷◌, ◌++◌, ◌∙◌, ap, subst, sym, arith}
use Rattle.std.specs.List.{All}
use Rattle.std.specs.Option.{option_to_list}
use Rattle.ftl_pool.specs.Pool.{StealHoldModel}
use Rattle.std.specs.Vec.Iter.{into_iter_items}
use Rattle.std.proofs.lemmas.List.Elements.{All-push}
use Rattle.ftl_cells.specs.shared.Work.{item_total}
use Rattle.ftl_steal.specs.Dealing.{HasFreeBelow}
use Rattle.ftl_steal.specs.Workers.{IsIdleMember, AreNumbered, holds_of}
use Rattle.ftl_steal.proofs.Members.{next_has, numbers_push, holds_push}
use Rattle.ftl_steal.proofs.stage.gather.Goals as goal

-- the next hold is one of those that came in
pub equip-requires-clause-free : goal.equip-requires-clause-free
equip-requires-clause-free g c κs within =
    let m = g.W.Meant.meaning c.args.cells.now.1 in
    let next : into_iter_items c.loop-number.holds ≡ c.unwrap-hold.result ∷ into_iter_items c.next.new.self =
    search rules in
    next_has (HasFreeBelow m c.args.pool.now (item_total m)) (holds_of c.loop-number.members.items)
    (into_iter_items c.next.new.self) c.args.holds.items c.unwrap-hold.result
    (ap (λ x. holds_of c.loop-number.members.items ++ x) (sym next) ∙ c.loop-number.invariant.holds) c.requires.free

-- one more worker is there
pub loop-number-preserved : goal.loop-number-preserved
loop-number-preserved g c =
    let m = g.W.Meant.meaning c.args.cells.now.1 in
    let inv = c.loop-number.invariant in
    let P = IsIdleMember m c.args.cells.now.0 c.args.pool.now in
    let next : into_iter_items c.loop-number.holds ≡ c.unwrap-hold.result ∷ into_iter_items c.next.new.self =
    search rules in
    let pushed = sym c.in_ok-push.ensures.items in record {
      made = c.in_ok-member.ensures.made;
      idle = c.in_ok-member.ensures.idle;
      steps = omega (arith, inv.steps, c.in_ok-member.ensures.steps);
      left = omega (
        arith,
        c.next.ensures.len,
        ap (λ (r : Option StealHoldModel). length (option_to_list r)) c.unwrap-hold.ensures,
        inv.left,
      );
      count = omega (arith, c.in_ok-push.ensures.len, inv.count);
      members = subst (All P) pushed (All-push P c.loop-number.members.items c.in_ok-member.member inv.members
          c.in_ok-member.ensures.member);
      numbers = subst AreNumbered pushed (numbers_push c.loop-number.members.items c.in_ok-member.member inv.numbers
          (c.in_ok-member.ensures.number ∙ omega (arith, inv.count)));
      holds = subst (λ x. holds_of x ++ into_iter_items c.next.new.self ≡ c.args.holds.items) pushed
          (holds_push c.loop-number.members.items c.in_ok-member.member c.unwrap-hold.result
          (into_iter_items c.next.new.self) c.args.holds.items c.in_ok-member.ensures.hold
          (ap (λ x. holds_of c.loop-number.members.items ++ x) (sym next) ∙ inv.holds));
    }
