use Rattle.std.proofs.Common.{◌∙◌, sym}
use Rattle.ftl_document.proofs.syntax.RowsLeft.{nothing_left}
use Rattle.ftl_document.proofs.syntax.open.finish.Goals as goal

pub returns : goal.returns
returns c =
    let l = c.loop-inside in
    let none = sym c.innermost.ensures.innermost ∙ c.in_default.is in
    record { reads = l.invariant ∙ nothing_left l.stack l.rows.items l.input none }
