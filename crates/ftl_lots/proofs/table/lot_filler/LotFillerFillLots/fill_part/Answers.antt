use Rattle.std.proofs.Common.{◌≡◌, subst, sym, arith}
use Rattle.ftl_cells.specs.shared.Work.{cell_total}
use Rattle.ftl_lots.specs.filling.Filled.{HoldMade, IsOfFirstOrRanges, range_first}
use Rattle.ftl_lots.specs.table.Lots.{IsBegun, IsFilled, wanted}
use Rattle.ftl_lots.proofs.filling.Joins.{range_made}
use Rattle.ftl_lots.proofs.table.lot_filler.LotFillerFillLots.fill_part.Goals as goal

pub returns-clause-filled : goal.returns-clause-filled
returns-clause-filled g c =
    let m = g.W.Meant.meaning c.self.inside.work.now in
    let t = c.self.inside.phases.now in
    let lot = c.args.lot in
    let words = c.fill_phase.new.words.items in
    let first : c.min-first.result ≡ range_first t.size (cell_total m) lot =
    omega (
      arith,
      c.min-first.ensures,
      c.saturating_mul.ensures,
      c.cell_count.ensures.count,
      c.self.invariant.narrow,
    ) in
    let begun : IsBegun (wanted m t) lot c.args.part.now =
    subst (λ w. IsBegun w lot c.args.part.now) (sym c.self.view_is) c.requires.begun in
    let here : IsFilled (wanted m t) lot c.fill_phase.new.words = record {
      count = omega (arith, begun.count, c.fill_phase.ensures.count);
      made = subst (HoldMade m (IsOfFirstOrRanges t lot 1) words) first
          (range_made m t words lot c.min-first.result c.fill_phase.ensures.filled);
    } in
    subst (λ w. IsFilled w lot c.fill_phase.new.words) c.self.view_is here
