use Rattle.ftl_document.proofs.syntax.RowsLeft.{single_too_deep}
use Rattle.ftl_document.proofs.syntax.open.single.Goals as goal

pub returns-then-depth-eq0-clause-turn : goal.returns-then-depth-eq0-clause-turn
returns-then-depth-eq0-clause-turn c = λ _.
    single_too_deep c.args.depth c.args.name.now _ c.args.rows.now.items c.args.stack.now _ _ _ c.if-depth-eq0.true
    c.in_ok-class.ensures.text c.in_ok-expect.ensures.reads
