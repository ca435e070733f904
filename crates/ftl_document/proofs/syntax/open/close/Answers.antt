use Rattle.std.proofs.Common.{ap, ◌∙◌, refl, rules, arith}
use Rattle.std.proofs.lemmas.Grind.{common_steps}
use Rattle.ftl_tokens.specs.reading.Reader.{and_then}
use Rattle.ftl_document.proofs.syntax.RowsLeft.{behind, end_left, end_taken, some_open}
use Rattle.ftl_document.proofs.syntax.open.close.Goals as goal

pub returns-in_err-expect-clause-turn : goal.returns-in_err-expect-clause-turn
returns-in_err-expect-clause-turn c =
    let e =
    end_left c.args.inside c.args.stack.now _ c.args.rows.now.items c.args.input.now c.requires.innermost c.mark.ensures.mark
    c.requires.ended in
    first_of (search rules, grind (arith, common_steps))

pub returns-in-Some-clause-turn : goal.returns-in-Some-clause-turn
returns-in-Some-clause-turn c =
    let l = c.args.stack.now in
    let found = c.args.rows.now.items in
    end_left c.args.inside l _ found c.args.input.now c.requires.innermost c.mark.ensures.mark c.requires.ended
    ∙ ap (λ r. and_then r (λ u. behind l found)) c.in_ok-expect.ensures.reads
    ∙ end_taken l _ _ found _ _ c.in-Some.ensures.popped c.close.ensures.closed

pub returns-in_default-clause-turn : goal.returns-in_default-clause-turn
returns-in_default-clause-turn c =
    absurd (some_open c.args.inside c.args.stack.now (c.in_default.ensures.none refl) c.requires.innermost)
