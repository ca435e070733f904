use Rattle.std.proofs.Common.{◌<◌, sym, subst, arith}
use Rattle.ftl_lots.specs.table.Lots.{TakeTold, lot_total}
use Rattle.ftl_lots.proofs.table.Keeps.{take_arrives}
use Rattle.ftl_lots.proofs.table.lots.Lots.take.Goals as goal

pub swap_new_seat-requires : goal.swap_new_seat-requires
swap_new_seat-requires g c =
    let want = g.F.FillLots.wanted c.self.inside.table.shared.key in
    let l : c.args.lot < lot_total want = subst (λ z. c.args.lot < lot_total z.1) (sym c.self.view_is) c.requires.lot in
    (omega (arith, l, c.self.invariant.0), take_arrives want _ c.args.lot l)

pub returns-clause-told : goal.returns-clause-told
returns-clause-told g c =
    subst (λ z. TakeTold z.1 c.args.lot c.swap_new_seat.result.0 c.swap_new_seat.result.1.me) c.self.view_is
    c.swap_new_seat.ensures.1
