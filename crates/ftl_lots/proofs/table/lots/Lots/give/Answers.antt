use Rattle.std.proofs.Common.{◌<◌, sym, ap, ◌∙◌, subst, arith}
use Rattle.ftl_lots.specs.table.Lots.{Has, IsFilled, lot_total}
use Rattle.ftl_lots.proofs.table.Keeps.{give_allows}
use Rattle.ftl_lots.proofs.table.lots.Lots.give.Goals as goal

pub store-requires : goal.store-requires
store-requires g c =
    let want = g.F.FillLots.wanted c.self.inside.table.shared.key in
    let l : c.args.lot < lot_total want = subst (λ z. c.args.lot < lot_total z.1) (sym c.self.view_is) c.requires.lot in
    let h : Has c.args.lot (IsFilled want c.args.lot) c.args.seat.me =
    subst (λ z. Has c.args.lot (IsFilled z.1 c.args.lot) c.args.seat.me) (sym c.self.view_is) c.requires.filled in (
      c.requires.table ∙ sym (ap (λ z. z.0) c.self.view_is),
      omega (arith, l, c.self.invariant.0),
      give_allows want _ c.args.seat.id c.args.lot c.args.seat.me c.self.invariant.1 l h,
    )
