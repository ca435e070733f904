use Rattle.std.proofs.Common.{◌∙◌, ap, sym, subst, arith, [], ◌∷◌, length}
use Rattle.ftl_cells.specs.shared.State.{Reached, begins, newcomer, first_name, opening_words}
use Rattle.ftl_cells.proofs.shared.Opening.{opening_is, table_is, length-opening_words}
use Rattle.ftl_cells.proofs.shared.cells.Cells.open.Goals as goal

pub of_words-requires : goal.of_words-requires
of_words-requires g c =
    let m = g.W.Meant.meaning c.args.work in
    let rows = c.as_slice.ensures.value ∙ c.in_ok-open_row.ensures.row in
    subst (λ ws. Reached (g.W.Meant.meaning c.args.work) ws
    (newcomer (g.W.Meant.meaning c.args.work) first_name ∷ [])) (sym rows)
    (begins (opening_words (g.W.Meant.meaning c.args.work) c.args.words.items)
    (opening_is (g.W.Meant.meaning c.args.work) c.args.words.items c.requires.first))

pub invariant_of-cells : goal.invariant_of-cells
invariant_of-cells g c =
    let rows = c.as_slice.ensures.value ∙ c.in_ok-open_row.ensures.row in (
      c.in_ok-table.ensures.5,
      table_is (g.W.Meant.meaning c.args.work) c.args.words.items c.in_ok-table.table.shared.table_id c.cells.result
          c.items.result c.requires.first c.items.ensures.lawful
          (c.in_ok-table.ensures.0 ∙ ap length rows) c.in_ok-table.ensures.1 c.cells.ensures.count c.items.ensures.count
          c.cells.type_inv c.items.type_inv,
      omega (
        arith,
        length-opening_words (g.W.Meant.meaning c.args.work) c.args.words.items c.requires.first,
        ap length c.in_ok-open_row.ensures.row,
      ),
    )
