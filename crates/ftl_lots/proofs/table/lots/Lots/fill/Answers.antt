use Rattle.std.proofs.Common.{◌∷◌, sym, ap, ◌∙◌, subst}
use Rattle.atomic_table.specs.Table.{rest}
use Rattle.ftl_lots.specs.table.Lots.{IsFilled}
use Rattle.ftl_lots.proofs.table.lots.Lots.fill.Goals as goal

pub slot_mut-part-requires : goal.slot_mut-part-requires
slot_mut-part-requires g c =
    let t = c.take-found.ensures.told.0 c.if-found-eq-FREE.true in (
      c.take-found.ensures.table ∙ sym (ap (λ z. z.0) c.self.view_is),
      (t.0, t.1 ∙ ap (λ l. (c.args.lot, t.0) ∷ rest l) (sym t.1)),
    )

pub give-requires-clause-filled : goal.give-requires-clause-filled
give-requires-clause-filled g c =
    let t = c.take-found.ensures.told.0 c.if-found-eq-FREE.true in (
      c.fill_part.new.part,
      ap (λ l. (c.args.lot, c.fill_part.new.part) ∷ rest l) t.1,
      subst (λ z. IsFilled z c.args.lot c.fill_part.new.part) c.requires.of c.fill_part.ensures.filled,
    )

pub give-requires-then-found-eq-FILLED-clause-filled : goal.give-requires-then-found-eq-FILLED-clause-filled
give-requires-then-found-eq-FILLED-clause-filled g c = c.take-found.ensures.told.1 c.if-found-eq-FILLED.true
