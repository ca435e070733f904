use Rattle.std.proofs.Common.{◌∷◌, length, take, drop, sym, ap, ◌∙◌, arith}
use Rattle.std.specs.List.{position_or_len}
use Rattle.ftl_tokens.specs.scanner.Scan.{is_white_space}
use Rattle.ftl_page.specs.sections.Lines.{words_of}
use Rattle.ftl_page.proofs.sections.WordLemmas.{next_word_none, next_word_some}
use Rattle.ftl_page.proofs.sections.words.next_word.Goals as goal

pub returns-clause-none : goal.returns-clause-none
returns-clause-none c = λ none.
    let start = c.split_at.ensures.back ∙ ap (λ n. drop n c.args.line.now) c.white_length.ensures.length in
    let word = c.split_at-2.ensures.front ∙ ap (λ n. take n c.split_at.result.1.now) c.word_length.ensures.length in
    next_word_none c.args.line.now c.split_at.result.1.now start (ap length (sym word) ∙ none)

pub returns-clause-some : goal.returns-clause-some
returns-clause-some c = λ some.
    let start = c.split_at.ensures.back ∙ ap (λ n. drop n c.args.line.now) c.white_length.ensures.length in
    let word = c.split_at-2.ensures.front ∙ ap (λ n. take n c.split_at.result.1.now) c.word_length.ensures.length in
    let rest = c.split_at-2.ensures.back ∙ ap (λ n. drop n c.split_at.result.1.now) c.word_length.ensures.length in
    next_word_some c.args.line.now c.split_at.result.1.now start (omega (arith, ap length word))
    ∙ ap (λ l. l ∷ words_of (drop (position_or_len is_white_space c.split_at.result.1.now) c.split_at.result.1.now))
    (sym word)
    ∙ ap (λ l. c.split_at-2.result.0.now ∷ words_of l) (sym rest)
