use Rattle.std.proofs.Common.{◌∷◌, sym, ap, ◌∙◌}
use Rattle.atomic_table.specs.Table.{rest}
use Rattle.ftl_lots.proofs.table.lots.Lots.filled.Goals as goal

pub exchange-requires : goal.exchange-requires
exchange-requires g c =
    let t = c.take-found.ensures.told.1 c.if-found-eq-FILLED.true in (
      c.take-found.ensures.table ∙ sym (ap (λ z. z.0) c.self.view_is),
      (t.0, t.1 ∙ ap (λ l. (c.args.lot, t.0) ∷ rest l) (sym t.1)),
    )
