use Rattle.std.proofs.Common.{arith}
use Rattle.ftl_steal.proofs.Totals.{each_stepped, none_left}
use Rattle.ftl_steal.proofs.stage.give_up_all.Goals as goal

-- each hand that is taken in has made a step
pub returns-clause-least : goal.returns-clause-least
returns-clause-least g c =
    let inv = c.loop.invariant in
    let none = none_left c.loop.members.items (omega (arith, inv.left, c.loop-test.false)) in
    omega (
      arith,
      inv.all,
      inv.left,
      c.loop-test.false,
      none,
      each_stepped (g.W.Meant.meaning c.args.cells.now.1) c.args.cells.now.0 c.args.members.items c.requires.ended,
    )
