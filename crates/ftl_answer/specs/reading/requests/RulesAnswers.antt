-- What is asked of a page whose document is not looked at, and when the result of a call is its end.
use Rattle.std.specs.Prelude.{◌≡◌, ℕ, List, codes, Result, Ok, Err, IsErr}
use Rattle.ftl_meaning.specs.faults.Checked.{CheckedGrammar}
use Rattle.ftl_page.specs.declared.sections.page.Page.{Page}
use Rattle.ftl_nest_check.specs.declared.stages.types.NestingSchedule.{NestingSchedule}
use Rattle.ftl_nest_text.specs.text.NestText.{nesting_schedule_text}
use Rattle.ftl_nest_text.specs.printing.NestWritten.{nest_written_of}
use Rattle.ftl_answer.specs.answers.Answer.{answer}
use Rattle.ftl_answer.specs.answers.Stages.{Is, Stage, Then, ends}
use Rattle.ftl_answer.specs.answers.Texts.{grammar, schedule}
use Rattle.ftl_answer.specs.reading.sections.Outcomes.{answer_of}
use Rattle.ftl_answer.specs.declared.reading.sections.decision.Decided.{Decided}
use Rattle.ftl_answer.specs.declared.reading.sections.decision.Undecided.{Undecided}
use Rattle.ftl_answer.specs.declared.reading.sections.decision.Undecided.TheVariants.{OutOfMemory, Refused}
use Rattle.ftl_answer.specs.declared.reading.requests.rules.RulesOutput.{RulesOutput}
use Rattle.ftl_answer.specs.declared.reading.requests.rules.RulesOutput.TheVariants as output

-- the stage may end with the answer, unless memory ran out
abbrev pub EndsIn : Stage ⊥ → Result Decided Undecided → Type 0
EndsIn stage (Ok d) = stage (ends (answer_of d))
EndsIn stage (Err (Refused d)) = stage (ends (answer_of d))
EndsIn stage (Err OutOfMemory) = Unit {0}

-- the answer that the stages ended with, unless memory ran out
abbrev pub IsEndOf : {E : Type 0} → Result Decided Undecided → Result Decided E → Type 0
IsEndOf (Ok d) result = result ≡ Ok d
IsEndOf (Err (Refused d)) result = result ≡ Ok d
IsEndOf (Err OutOfMemory) result = IsErr result

-- the text that answers what is asked of a grammar and a schedule
abbrev pub output_text : RulesOutput → CheckedGrammar → NestingSchedule → List ℕ
output_text output.Verdict c s = codes "accepted\n"
output_text output.Text c s = nesting_schedule_text (nest_written_of c.grammar s)

-- the stage that ends with it
abbrev pub rules_answer : RulesOutput → CheckedGrammar → NestingSchedule → Stage ⊥
rules_answer what c s = Is (ends (answer 0 (output_text what c s)))

-- the schedule of a grammar, and what is asked of both
abbrev pub answer_of_schedule : RulesOutput → CheckedGrammar → Page → Stage ⊥
answer_of_schedule what c p = Then (schedule c p.schedule) (rules_answer what c)

-- the rules of a page, and what is asked of them
abbrev pub answer_of_page : RulesOutput → Page → Stage ⊥
answer_of_page what p = Then (grammar p.width p.grammar) (λ c. answer_of_schedule what c p)
