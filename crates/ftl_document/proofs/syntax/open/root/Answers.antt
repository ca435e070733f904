use Rattle.std.proofs.Common.{◌≡◌, List, [], ◌∷◌, ap, ◌∙◌, sym, subst}
use Rattle.ftl_document.specs.declared.syntax.open_rows.OpenRow.{OpenRow}
use Rattle.ftl_document.specs.declared.syntax.open_rows.OpenRow.TheVariants as open_row
use Rattle.ftl_document.specs.syntax.RowReading.{Pushes}
use Rattle.ftl_document.proofs.syntax.RowsLeft.{root_opened}
use Rattle.ftl_document.proofs.syntax.open.root.Goals as goal

pub returns : goal.returns
returns c =
    let is : c.push.new.self ≡ open_row.Root 511 ∷ [] =
    c.in_ok-push.ensures.pushed ∙ ap (λ (l : List OpenRow). open_row.Root 511 ∷ l) c.new-stack.ensures.empty in
    let e =
    root_opened c.push.new.self c.args.rows.now.items c.args.input.now c.expect.new.self is c.in_ok-expect.ensures.reads in
    let now = c.finish.new in
    record { reads = subst (λ o. Pushes o c.finish.result now.rows.items now.input) (sym e) c.finish.ensures.reads }
