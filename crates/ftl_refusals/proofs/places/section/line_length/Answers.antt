use Rattle.std.proofs.Common.{◌≡◌, ◌∷◌, take, drop, subst}
use Rattle.ftl_page.specs.sections.Lines.{lines_of}
use Rattle.ftl_page.proofs.sections.LineLemmas.{line_length-first, line_length-none, lines_of-first}
use Rattle.ftl_refusals.proofs.places.section.line_length.Goals as goal

-- the line ends with this line feed
pub returns-in-Some-clause-first : goal.returns-in-Some-clause-first
returns-in-Some-clause-first c = λ some.
    let text = c.args.text.now in
    let found = c.in-Some.ensures in
    let here = line_length-first c.in-Some.place text found.0.before found.0.high found.1 in
    subst (λ n. lines_of text ≡ take n text ∷ lines_of (drop n text)) here (lines_of-first text some)

-- the line ends with the text
pub returns-in-None-clause-first : goal.returns-in-None-clause-first
returns-in-None-clause-first c = λ some.
    let text = c.args.text.now in
    let here = line_length-none text c.in-None.ensures in
    subst (λ n. lines_of text ≡ take n text ∷ lines_of (drop n text)) here (lines_of-first text some)
