-- No answer has the status of a fault or of want of memory.
use Rattle.std.proofs.Common.{◌≡◌, ⊎_elim, ℕ, List, arith}
use Rattle.ftl_page.specs.commands.Commands.{command_of}
use Rattle.ftl_page.specs.declared.commands.command.Command.{Command}
use Rattle.ftl_page.specs.declared.commands.command.Command.TheVariants as command
use Rattle.ftl_answer.specs.answers.Answer.{Answer, answer, refused}
use Rattle.ftl_answer.specs.answers.Answers.{IsAnswer, command_in, obeyed}
use Rattle.ftl_answer.specs.answers.Stages.{Is}
use Rattle.ftl_answer.specs.headline.Headline.{IsAnswered}
use Rattle.ftl_answer.specs.headline.Promises.{IsRefusalStatus, IsSectionStatus}
use Rattle.ftl_answer.specs.refusals.PageLines.{words_line}
use Rattle.ftl_answer.proofs.headline.EachAnswer.{Unmade, of_command}
use Rattle.ftl_answer.proofs.headline.Refusals.{of_page_status, of_section, of_words, of_words_status, two}

abbrev Fine : Answer → Type 0
Fine a = IsAnswered a.status

-- ---- statuses

done : IsAnswered 0
done = record { no_write_fault = λ e. omega (arith, e); no_read_fault = λ e. omega (arith, e); no_want = λ e. omega (arith, e) }

with_overflow : IsAnswered 8
with_overflow = record { no_write_fault = λ e. omega (arith, e); no_read_fault = λ e. omega (arith, e); no_want = λ e. omega (arith, e) }

-- the status of a refusal is that of an answer
refusal : (s : ℕ) → IsRefusalStatus s → IsAnswered s
refusal s is = record {
  no_write_fault =
      λ e.
      ⊎_elim (λ (p : s ≡ 2). omega (arith, e, p))
      (⊎_elim (λ (p : s ≡ 4). omega (arith, e, p))
      (⊎_elim (λ (p : s ≡ 5). omega (arith, e, p))
      (⊎_elim (λ (p : s ≡ 6). omega (arith, e, p))
      (⊎_elim (λ (p : s ≡ 7). omega (arith, e, p)) (λ (p : s ≡ 10). omega (arith, e, p)))))) is;
  no_read_fault =
      λ e.
      ⊎_elim (λ (p : s ≡ 2). omega (arith, e, p))
      (⊎_elim (λ (p : s ≡ 4). omega (arith, e, p))
      (⊎_elim (λ (p : s ≡ 5). omega (arith, e, p))
      (⊎_elim (λ (p : s ≡ 6). omega (arith, e, p))
      (⊎_elim (λ (p : s ≡ 7). omega (arith, e, p)) (λ (p : s ≡ 10). omega (arith, e, p)))))) is;
  no_want =
      λ e.
      ⊎_elim (λ (p : s ≡ 2). omega (arith, e, p))
      (⊎_elim (λ (p : s ≡ 4). omega (arith, e, p))
      (⊎_elim (λ (p : s ≡ 5). omega (arith, e, p))
      (⊎_elim (λ (p : s ≡ 6). omega (arith, e, p))
      (⊎_elim (λ (p : s ≡ 7). omega (arith, e, p)) (λ (p : s ≡ 10). omega (arith, e, p)))))) is;
}

line : (s : ℕ) → IsRefusalStatus s → (text : List ℕ) → Fine (refused s text)
line s is text = refusal s is

page_line : (text : List ℕ) → Fine (refused 4 text)
page_line = line 4 of_page_status

section_line : (s : ℕ) → IsSectionStatus s → (text : List ℕ) → Fine (refused s text)
section_line s is = line s (of_section s is)

shown : (text : List ℕ) → Fine (answer 0 text)
shown text = done

overflowed : (text : List ℕ) → Fine (answer 8 text)
overflowed text = with_overflow

-- ---- commands

unmade : (c : Command) → Unmade Fine section_line shown overflowed c
unmade (command.Run how) = tt
unmade command.Check = tt
unmade command.Schedule = tt
unmade command.Explain = tt
unmade command.Demand = tt
unmade (command.Edit how) = tt
unmade (command.Sample pieces name how) = λ fault is. line 2 of_words_status words_line

pub answer_status : (words : List (List ℕ)) (bytes : List ℕ) (a : Answer) → IsAnswer words bytes a → IsAnswered a.status
answer_status words bytes =
    two Fine (Is (command_in (command_of words))) (λ c. obeyed c bytes)
    (of_words Fine (line 2 of_words_status words_line) (command_of words))
    (λ c is. of_command Fine section_line shown overflowed page_line c bytes (unmade c))
