-- How the stages of a page that is solved follow each other.
use Rattle.std.proofs.Common.{◌≡◌, refl, sym, subst, inl, inr, ℕ, List, Option, Result, Ok, Err}
use Rattle.std.specs.Prelude.{IsErrAnd}
use Rattle.std.proofs.lemmas.Result.{err_from_is_err_and}
use Rattle.ftl_meaning.specs.faults.Checked.{CheckedGrammar}
use Rattle.ftl_page.specs.declared.sections.page.Page.{Page}
use Rattle.ftl_page.specs.declared.sections.page.Need.{Need}
use Rattle.ftl_model.specs.layout.Tree.{Forest}
use Rattle.ftl_answer.specs.answers.Answers.{solved_anew}
use Rattle.ftl_answer.specs.answers.Stages.{ends, hands_on}
use Rattle.ftl_answer.specs.answers.Texts.{grammar, page}
use Rattle.ftl_answer.specs.reading.sections.Outcomes.{IsOutcome, answer_of}
use Rattle.ftl_answer.specs.declared.reading.sections.decision.Decided.{Decided}
use Rattle.ftl_answer.specs.declared.reading.sections.decision.Undecided.{Undecided}
use Rattle.ftl_answer.specs.declared.reading.sections.decision.Undecided.TheVariants.{OutOfMemory, Refused}
use Rattle.ftl_answer.specs.reading.requests.RulesAnswers.{EndsIn}
use Rattle.ftl_answer.specs.reading.requests.Requests.{IsAnsweredBy, evaluated, problem_stage}
use Rattle.ftl_answer.specs.reading.requests.ShownTexts.{text_shown}
use Rattle.ftl_run.specs.calls.SolvedPages.{LeadsTo, page_stage, rules_stage, task_stage}
use Rattle.ftl_answer.specs.declared.reading.requests.request.EditedPage.{EditedPage}
use Rattle.ftl_answer.specs.declared.reading.requests.request.Evaluation.{Evaluation}
use Rattle.ftl_answer.specs.declared.reading.requests.request.Problem.{Problem}
use Rattle.ftl_answer.specs.declared.reading.requests.request.Request.{Request}
use Rattle.ftl_answer.specs.declared.reading.requests.request.Request.TheVariants.{Edit, Solve}
use Rattle.ftl_answer.specs.declared.reading.requests.request.Undone.{Undone}
use Rattle.ftl_run.specs.declared.calls.solving.PageRead.{PageRead}
use Rattle.ftl_run.specs.declared.calls.task.Task.{Task}

-- the failure, as a result of this type
abbrev failed : (X : Type 0) → Undecided → Result X Undecided
failed X u = Err u

-- at the exit of a `?`
pub exit : {X : Type 0} (P : Result X Undecided → Type 0) (r : Result X Undecided) (u : Undecided)
    → IsErrAnd r (λ e. e ≡ u) → P (Err u) → P r
exit {X = X} P r u is holds =
    let p = err_from_is_err_and r is in
    subst P (sym p.1) (subst (λ (e : Undecided). P (failed X e)) (sym p.2) holds)

-- ---- the rules of a page

pub page_ends : (need : Need) (bytes : List ℕ) (u : Undecided)
    → IsOutcome (page need bytes) (λ (p : Page). p) (failed Page u) → LeadsTo need bytes (Err u)
page_ends need bytes (Refused d) may = λ task. inl (answer_of d, may, refl)
page_ends need bytes OutOfMemory may = tt

-- the texts of a page, with its grammar
abbrev pub read_of : Page → CheckedGrammar → PageRead
read_of p c =
    record { rules = record { checked = c; schedule = p.schedule; document = p.document }; edits = p.edits }

module _ (need : Need) (bytes : List ℕ) (p : Page) (read : page need bytes (hands_on p)) where
  pub grammar_ends : (u : Undecided)
      → IsOutcome (grammar p.width p.grammar) (λ (c : CheckedGrammar). c) (failed CheckedGrammar u)
      → LeadsTo need bytes (Err u)
  grammar_ends (Refused d) may = λ task. inr (p, read, inl (answer_of d, may, refl))
  grammar_ends OutOfMemory may = tt

  pub rules_lead : (c : CheckedGrammar) → grammar p.width p.grammar (hands_on c) → LeadsTo need bytes (Ok (read_of p c))
  rules_lead c lawful = λ task end stage. inr (p, read, inr (c, lawful, stage))

-- ---- behind the rules

module _ (need : Need) (bytes : List ℕ) (task : Option (List ℕ) → Task) where
  pub rules_end : (u : Undecided) → LeadsTo need bytes (Err u) → EndsIn (page_stage need bytes task) (Err u)
  rules_end (Refused d) leads = leads task
  rules_end OutOfMemory leads = tt

  pub solved_rules : (p : PageRead) (result : Result Decided Undecided) → LeadsTo need bytes (Ok p)
      → EndsIn (rules_stage p.rules (task p.edits)) result → EndsIn (page_stage need bytes task) result
  solved_rules p (Ok d) leads may = leads task (ends (answer_of d)) may
  solved_rules p (Err (Refused d)) leads may = leads task (ends (answer_of d)) may
  solved_rules p (Err OutOfMemory) leads may = tt

-- what becomes of a tree, by its grammar
pub as_task : (task is : Task) (k c : CheckedGrammar) (t : Forest) (result : Result Decided Undecided) → task ≡ is → k ≡ c
    → EndsIn (task_stage is k t) result → EndsIn (task_stage task c t) result
as_task task is k c t result same grammar holds =
    subst (λ (x : Task). EndsIn (task_stage x c t) result) (sym same)
    (subst (λ (x : CheckedGrammar). EndsIn (task_stage is x t) result) grammar holds)

-- a page is evaluated as it is to be
pub as_evaluated : (p : Problem) (e : Evaluation) (result : Result Decided Undecided) → p.evaluation ≡ e
    → EndsIn (evaluated e p.bytes.items (text_shown p.shown)) result → EndsIn (problem_stage p) result
as_evaluated p e result is =
    subst (λ (x : Evaluation). EndsIn (evaluated x p.bytes.items (text_shown p.shown)) result) (sym is)

-- ---- the end

-- a page that was asked for is answered
pub page_answered : (q : Result Request Undone) (r : Request) (p : Problem) (d : Decided) → q ≡ Ok r → r ≡ Solve p
    → problem_stage p (ends (answer_of d)) → IsAnsweredBy q (Ok d)
page_answered q r p d was is holds =
    subst (λ (x : Result Request Undone). IsAnsweredBy x (Ok d)) (sym was)
    (subst (λ (y : Request). IsAnsweredBy (Ok y) (Ok d)) (sym is) holds)

-- and so is a page that was to be edited
pub edit_answered : (q : Result Request Undone) (r : Request) (p : EditedPage) (d : Decided) → q ≡ Ok r → r ≡ Edit p
    → solved_anew p.bytes.items (ends (answer_of d)) → IsAnsweredBy q (Ok d)
edit_answered q r p d was is holds =
    subst (λ (x : Result Request Undone). IsAnsweredBy x (Ok d)) (sym was)
    (subst (λ (y : Request). IsAnsweredBy (Ok y) (Ok d)) (sym is) holds)
