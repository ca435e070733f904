-- What is shown of one answer to `explain` is shown of each.
use Rattle.std.proofs.Common.{◌≡◌, ◌≢◌, ◌∙◌, ap, inl, inr, subst, sym, ℕ, List, Option, Some, None}
use Rattle.ftl_meaning.specs.faults.Checked.{CheckedGrammar}
use Rattle.ftl_order.specs.declared.faults.fault.VerifyFault.TheVariants.{Unordered}
use Rattle.ftl_page.specs.commands.Commands.{command_of}
use Rattle.ftl_page.specs.declared.commands.command.Command.{Command}
use Rattle.ftl_page.specs.declared.commands.command.Command.TheVariants as command
use Rattle.ftl_nest_check.specs.declared.stages.types.NestingSchedule.{NestingSchedule}
use Rattle.ftl_answer.specs.answers.Answer.{Answer, answer}
use Rattle.ftl_answer.specs.answers.Answers.{HasOneAnswer, IsAnswer, accepted_answer, command_in, explained, explained_by}
use Rattle.ftl_answer.specs.answers.Answers.{explained_page, obeyed}
use Rattle.ftl_answer.specs.answers.Explanations.{IsExplanation}
use Rattle.ftl_answer.specs.answers.Stages.{Is, ends}
use Rattle.ftl_answer.specs.headline.Promises.{AreRulesAccepted, IsPairRefused, IsShown}
use Rattle.ftl_answer.proofs.answers.Explained.{accepted_alone, rules_go_on, spelled_goes_on}
use Rattle.ftl_answer.proofs.answers.Ones.{goes_on, is_one, same_end}
use Rattle.ftl_answer.proofs.answers.Rules.{grammar_handed}
use Rattle.ftl_answer.proofs.headline.Shown.{accepted_is_shown}

-- what the command of the words comes to
pub obeyed_by : (words : List (List ℕ)) (bytes : List ℕ) (c : Command) (a : Answer) → command_of words ≡ Some c
    → IsAnswer words bytes a → obeyed c bytes (ends a)
obeyed_by words bytes c a named answers =
    goes_on (Is (command_in (command_of words))) (λ c. obeyed c bytes) (is_one _) c (sym (ap command_in named)) (ends a)
    answers

-- where grammar and schedule are accepted, each answer says so
pub accepted_shown : (bytes : List ℕ) (c : CheckedGrammar) (s : NestingSchedule) (a : Answer) → AreRulesAccepted bytes c s
    → explained_page bytes (ends a) → a ≡ accepted_answer
accepted_shown bytes c s a x obeys =
    let p = x.sections in
    let law = (grammar_handed p.width p.grammar c x.lawful).faultless in
    same_end a accepted_answer
    (accepted_alone c law p.schedule s x.ordered (ends a) (rules_go_on bytes p c x.read x.lawful (ends a) obeys))

-- where the schedule is refused for a pair, each explains it
pub pair_shown : (bytes : List ℕ) (c : CheckedGrammar) (s : NestingSchedule) (a : Answer) → IsPairRefused bytes c s
    → explained_page bytes (ends a) → (text : List ℕ) × IsExplanation c s text × (a ≡ answer 0 text)
pair_shown bytes c s a x obeys =
    let of_text : explained c (Some x.text) (ends a) =
    subst (λ text. explained c text (ends a)) x.written (rules_go_on bytes x.sections c x.read x.lawful (ends a) obeys) in
    let told : explained_by c s (Some (Unordered x.reader x.writer)) (ends a) =
    subst (λ f. explained_by c s f (ends a)) x.fault
    (spelled_goes_on c x.text x.scanned s x.tokens_are x.spelled (ends a) of_text) in
    (told.0, told.1, same_end a (answer 0 told.0) told.2)

-- ---- what is shown of one answer is shown of each

-- the command that some words are, where they are one
abbrev pub command_or : Command → Option Command → Command
command_or c None = c
command_or c (Some other) = other

module _ (ones : (words : List (List ℕ)) (bytes : List ℕ) → HasOneAnswer words bytes) (words : List (List ℕ))
    (bytes : List ℕ) (a b : Answer) where
  shown_of_one : (c : Command) → c ≢ command.Explain → command_of words ≡ Some c → IsShown c bytes a
      → IsAnswer words bytes b → IsShown c bytes b
  shown_of_one c other named shown answers =
      subst (IsShown c bytes)
      ((ones words bytes).any_two (λ e. other (ap (command_or c) (sym named ∙ e))) a b
      (accepted_is_shown words bytes c a named shown) answers)
      shown

  pub shown_of_each : (c : Command) → command_of words ≡ Some c → IsShown c bytes a → IsAnswer words bytes b
      → IsShown c bytes b
  shown_of_each (command.Run how) = shown_of_one (command.Run how) (λ e. absurd cc)
  shown_of_each command.Check = shown_of_one command.Check (λ e. absurd cc)
  shown_of_each command.Schedule = shown_of_one command.Schedule (λ e. absurd cc)
  shown_of_each command.Explain =
      λ named shown answers. explained_too shown (obeyed_by words bytes command.Explain b named answers)
    where
      explained_too : IsShown command.Explain bytes a → explained_page bytes (ends b) → IsShown command.Explain bytes b
      explained_too (inl (c, s, x, is)) obeys = inl (c, s, x, accepted_shown bytes c s b x obeys)
      explained_too (inr (c, s, text, x, explains, is)) obeys =
          let told = pair_shown bytes c s b x obeys in inr (c, s, told.0, x, told.1, told.2)
  shown_of_each command.Demand = shown_of_one command.Demand (λ e. absurd cc)
  shown_of_each (command.Edit how) = shown_of_one (command.Edit how) (λ e. absurd cc)
  shown_of_each (command.Sample pieces name how) = shown_of_one (command.Sample pieces name how) (λ e. absurd cc)
