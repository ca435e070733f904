-- Bytes play no part in the answer to words that read no page.
use Rattle.std.proofs.Common.{◌≡◌, ◌∙◌, inl, inr, sym, ap, ℕ, false, List, Option, Some, None}
use Rattle.ftl_page.specs.commands.Commands.{command_of}
use Rattle.ftl_page.specs.declared.commands.command.Command.{Command}
use Rattle.ftl_page.specs.declared.commands.command.Command.TheVariants as command
use Rattle.ftl_answer.specs.refusals.PageLines.{words_line}
use Rattle.ftl_answer.specs.answers.Answer.{Answer, refused}
use Rattle.ftl_answer.specs.answers.Answers.{IsAnswer, command_in, obeyed}
use Rattle.ftl_answer.specs.answers.Stages.{Is, Then, ends}
use Rattle.ftl_answer.proofs.answers.Ones.{end_is_no_value, same_value}
use Rattle.ftl_answer.specs.headline.Headline.{may_read, reads_page, words_read}

command_same : (bytes other : List ℕ) (a : Answer) (c : Command) → reads_page c ≡ false → obeyed c bytes (ends a)
    → obeyed c other (ends a)
command_same bytes other a (command.Run how) e p = absurd cc
command_same bytes other a command.Check e p = absurd cc
command_same bytes other a command.Schedule e p = absurd cc
command_same bytes other a command.Explain e p = absurd cc
command_same bytes other a command.Demand e p = absurd cc
command_same bytes other a (command.Edit how) e p = absurd cc
command_same bytes other a (command.Sample pieces name how) e p = p

words_same : (bytes other : List ℕ) (a : Answer) (o : Option Command) → may_read o ≡ false
    → Then (Is (command_in o)) (λ c. obeyed c bytes) (ends a) → Then (Is (command_in o)) (λ c. obeyed c other) (ends a)
words_same bytes other a o e (inl p) = inl p
words_same bytes other a None e (inr p) = absurd (end_is_no_value (refused 2 words_line) p.0 (sym p.1))
words_same bytes other a (Some c) e (inr p) =
    let is : p.0 ≡ c = same_value p.0 c p.1 in
    inr (p.0, p.1, command_same bytes other a p.0 (ap reads_page is ∙ e) p.2)

pub answer_same : (words : List (List ℕ)) (bytes other : List ℕ) (a : Answer) → words_read words ≡ false
    → IsAnswer words bytes a → IsAnswer words other a
answer_same words bytes other a = words_same bytes other a (command_of words)
