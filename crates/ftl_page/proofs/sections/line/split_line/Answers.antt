use Rattle.std.proofs.Common.{◌∷◌, drop, sym, ap, ◌∙◌, arith}
use Rattle.ftl_page.specs.sections.Lines.{lines_of}
use Rattle.ftl_page.proofs.sections.LineLemmas.{line_boundary}
use Rattle.ftl_page.proofs.sections.line.split_line.Goals as goal

-- the line ends between characters
pub split_at-requires : goal.split_at-requires
split_at-requires c =
    let line = rw c.as_bytes.ensures.value at c.line_length.ensures in
    line_boundary c.args.text.now c.line_length.result c.utf8.text line.within line.end

pub returns-clause-lines : goal.returns-clause-lines
returns-clause-lines c = λ some.
    let line = rw c.as_bytes.ensures.value at c.line_length.ensures in
    line.first some
    ∙ ap (λ l. l ∷ lines_of (drop c.line_length.result c.args.text.now)) (sym c.split_at.ensures.front)
    ∙ ap (λ l. c.split_at.result.0.now ∷ lines_of l) (sym c.split_at.ensures.back)

pub returns-clause-some : goal.returns-clause-some
returns-clause-some c = λ some.
    let line = rw c.as_bytes.ensures.value at c.line_length.ensures in
    omega (arith, line.some some, c.split_at.ensures.front_len)
