-- Pages whose tables can be computed.
use Rattle.std.specs.Prelude.{ℕ, ◌≤◌, List, length, Option, Result, Ok, Err, IfSome}
use Rattle.ftl_model.specs.layout.Limits.{most_page_bytes}
use Rattle.ftl_meaning.specs.faults.Checked.{CheckedGrammar}
use Rattle.ftl_model.specs.layout.Tree.{Forest}
use Rattle.ftl_model.specs.layout.Values.{Value}
use Rattle.ftl_page.specs.declared.sections.page.Need.{Need}
use Rattle.ftl_nest_check.specs.declared.stages.types.NestingSchedule.{NestingSchedule}
use Rattle.ftl_answer.specs.answers.Answers.{document_text, edited_by, shown_by, text_or_none, with_rules}
use Rattle.ftl_answer.specs.answers.Stages.{Outcome, Stage, Then, ends}
use Rattle.ftl_answer.specs.answers.Texts.{edits, schedule, tree}
use Rattle.ftl_answer.specs.reading.sections.Outcomes.{answer_of}
use Rattle.ftl_answer.specs.reading.requests.ShownTexts.{text_shown}
use Rattle.ftl_answer.specs.declared.reading.sections.decision.Undecided.{Undecided}
use Rattle.ftl_answer.specs.declared.reading.sections.decision.Undecided.TheVariants.{OutOfMemory, Refused}
use Rattle.ftl_run.specs.declared.calls.solving.PageRead.{PageRead}
use Rattle.ftl_run.specs.declared.calls.solving.Rules.{Rules}
use Rattle.ftl_run.specs.declared.calls.task.Task.{Task}
use Rattle.ftl_run.specs.declared.calls.task.Task.TheVariants.{Edit, Show}

-- what shows a table as a text
abbrev pub TableText : Type 0
TableText = CheckedGrammar → Forest → List Value → List ℕ

-- a text is short, where there is one
abbrev pub IsShort : Option (List ℕ) → Type 0
IsShort text = IfSome text (λ t. length t ≤ most_page_bytes)

-- the texts of the schedule and the document are short
pub record AreReady (r : Rules) : Type 0 where
  pub schedule : IsShort r.schedule
  pub document : IsShort r.document

-- and so are the edits
pub record IsPageReady (p : PageRead) : Type 0 where
  pub rules : AreReady p.rules
  pub edits : IsShort p.edits

-- the edits of a task are short
abbrev pub IsTaskReady : Task → Type 0
IsTaskReady (Show shown) = Unit {0}
IsTaskReady (Edit text) = IsShort text

-- what becomes of a tree
abbrev pub task_stage : Task → CheckedGrammar → Forest → Stage ⊥
task_stage (Show shown) c t = shown_by (text_shown shown) c t
task_stage (Edit text) c t = Then (edits c t (text_or_none text)) (edited_by c t)

-- the tree of a document, and what becomes of it
abbrev pub document_stage : CheckedGrammar → NestingSchedule → (document : List ℕ) → Task → Stage ⊥
document_stage c s document task = Then (tree c s document) (task_stage task c)

-- the schedule of a page, and the same of its document
abbrev pub rules_stage : Rules → Task → Stage ⊥
rules_stage r task =
    Then (schedule r.checked r.schedule) (λ s. document_stage r.checked s (text_or_none r.document) task)

-- a page, and what becomes of its tree, by the text of its edits
abbrev pub page_stage : Need → (bytes : List ℕ) → (Option (List ℕ) → Task) → Stage ⊥
page_stage need bytes task =
    with_rules need bytes (λ c s p. Then (tree c s (document_text p)) (task_stage (task p.edits) c))

-- the page comes to what its rules lead to, or to the refusal, unless memory ran out
abbrev pub LeadsTo : Need → (bytes : List ℕ) → Result PageRead Undecided → Type 0
LeadsTo need bytes (Ok p) =
    (task : Option (List ℕ) → Task) (end : Outcome ⊥) → rules_stage p.rules (task p.edits) end
    → page_stage need bytes task end
LeadsTo need bytes (Err (Refused d)) = (task : Option (List ℕ) → Task) → page_stage need bytes task (ends (answer_of d))
LeadsTo need bytes (Err OutOfMemory) = Unit {0}
