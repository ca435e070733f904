use Rattle.std.proofs.Common.{◌∷◌, drop, sym, ap, ◌∙◌, arith}
use Rattle.ftl_page.specs.sections.Lines.{lines_of}
use Rattle.ftl_refusals.proofs.places.section.split_line.Goals as goal

pub returns-clause-first : goal.returns-clause-first
returns-clause-first c = λ some.
    c.line_length.ensures.first some
    ∙ ap (λ l. l ∷ lines_of (drop c.line_length.result c.args.text.now)) (sym c.split_at.ensures.front)
    ∙ ap (λ l. c.split_at.result.0.now ∷ lines_of l) (sym c.split_at.ensures.back)

pub returns-clause-some : goal.returns-clause-some
returns-clause-some c = λ some.
    omega (arith, c.line_length.ensures.some some, c.split_at.ensures.front_len)
