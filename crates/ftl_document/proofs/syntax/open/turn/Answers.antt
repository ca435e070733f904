use Rattle.std.proofs.Common.{◌≡◌, Some, sym, subst}
use Rattle.ftl_tokens.specs.declared.scanner.kind.Kind.TheVariants as kind
use Rattle.ftl_tokens.specs.reading.Reader.{next_kind}
use Rattle.ftl_document.specs.syntax.RowsLeft.{LeadsTo, resume}
use Rattle.ftl_document.proofs.syntax.RowsLeft.{item_left}
use Rattle.ftl_document.proofs.syntax.open.turn.Goals as goal

pub returns-in-Some-Name-clause-turn : goal.returns-in-Some-Name-clause-turn
returns-in-Some-Name-clause-turn c =
    let ts = c.args.input.now in
    let comes : next_kind ts ≡ Some kind.Name = cc (c.peek.ensures.kind, c.in-Some-Name.is, c.in-Some-Name.field-0-is) in
    let e = item_left c.args.inside c.args.stack.now c.args.rows.now.items ts c.requires.innermost comes in
    let now = c.item.new in
    subst (λ o. LeadsTo o c.item.result (resume now.stack now.rows.items now.input) now.input) (sym e) c.item.ensures.turn
