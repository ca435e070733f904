-- What words and a page ask for, what becomes of it, and what is written.
use Rattle.std.specs.Prelude.{◌+◌, ◌≡◌, ◌⊎◌, ◌<◌, ◌≤◌, ℕ, Bool, true, List, length, Option, Result, Ok, Err}
use Rattle.std.specs.Io.KnownBytes.{Appends}
use Rattle.ftl_model.specs.layout.Limits.{most_page_bytes}
use Rattle.ftl_answer.specs.answers.Answer.{Answer, refused}
use Rattle.ftl_answer.specs.answers.Answers.{solved, solved_anew, solved_by_demand}
use Rattle.ftl_answer.specs.answers.Stages.{Stage, ends}
use Rattle.ftl_edge.specs.Counts.{RoseBy, raised}
use Rattle.ftl_meaning.specs.faults.Checked.{CheckedGrammar}
use Rattle.ftl_model.specs.layout.Tree.{Forest}
use Rattle.ftl_model.specs.layout.Values.{Value}
use Rattle.ftl_edge.specs.Sink.{AppendsFront}
use Rattle.ftl_answer.specs.refusals.PageLines.{too_long_line}
use Rattle.ftl_answer.specs.reading.sections.Outcomes.{answer_of}
use Rattle.ftl_answer.specs.declared.reading.sections.decision.Decided.{Decided}
use Rattle.ftl_answer.specs.reading.requests.ShownTexts.{text_shown}
use Rattle.ftl_answer.specs.declared.reading.requests.request.Evaluation.{Evaluation}
use Rattle.ftl_answer.specs.declared.reading.requests.request.Evaluation.TheVariants.{ByDemand, Scheduled}
use Rattle.ftl_answer.specs.declared.reading.requests.request.Problem.{Problem}
use Rattle.ftl_answer.specs.declared.reading.requests.request.Request.{Request}
use Rattle.ftl_answer.specs.declared.reading.requests.request.Request.TheVariants.{Answered, Edit, Solve}
use Rattle.ftl_answer.specs.declared.reading.requests.request.Undone.{Undone}
use Rattle.ftl_answer.specs.declared.reading.requests.request.Undone.TheVariants.{OutOfMemory, ReadFault}

-- ---- what is asked for

-- what a page comes to whose values are computed so
abbrev pub evaluated : Evaluation → (bytes : List ℕ) → (CheckedGrammar → Forest → List Value → List ℕ) → Stage ⊥
evaluated (Scheduled how) = solved
evaluated ByDemand = solved_by_demand

-- what a page that is to be solved comes to
abbrev pub problem_stage : Problem → Stage ⊥
problem_stage p = evaluated p.evaluation p.bytes.items (text_shown p.shown)

-- the answer to what is asked for
abbrev pub IsAnswerTo : Request → Answer → Type 0
IsAnswerTo (Answered d) a = a ≡ answer_of d
IsAnswerTo (Solve p) a = problem_stage p (ends a)
IsAnswerTo (Edit p) a = solved_anew p.bytes.items (ends a)

-- the stage may end with any answer to what is asked for
unfoldable pub MayEndAs : Stage ⊥ → Request → Type 0
MayEndAs stage q = (a : Answer) → IsAnswerTo q a → stage (ends a)

-- the page is too long
abbrev pub IsTooLong : Request → Type 0
IsTooLong (Answered d) = answer_of d ≡ refused 4 too_long_line
IsTooLong (Solve p) = ⊥
IsTooLong (Edit p) = ⊥

-- this is asked for where the stage of these bytes may end with any answer to it; where they were read and are not too
-- many, so many were taken; where they are too many, as many as a page may have and one more
pub record IsAsked (stage : Stage ⊥) (bytes : List ℕ) (reads : Bool) (old new : ℕ) (q : Request) : Type 0 where
  pub comes : MayEndAs stage q
  pub counted : reads ≡ true → (IsTooLong q → ⊥) → RoseBy (length bytes) old new
  pub over : reads ≡ true → most_page_bytes < length bytes → raised old (most_page_bytes + 1) ≤ new

-- ---- what becomes of it

-- what was asked for is answered, unless memory ran out; where nothing was asked for, it stays at that
abbrev pub IsAnsweredBy : Result Request Undone → Result Decided Undone → Type 0
IsAnsweredBy (Ok q) (Ok d) = IsAnswerTo q (answer_of d)
IsAnsweredBy (Ok q) (Err undone) = undone ≡ OutOfMemory
IsAnsweredBy (Err undone) found = found ≡ Err undone

-- ---- what is written

-- the status that a call ends with, and what was written before and after: the whole text of what was decided, or a
-- front of it and the status of a write fault; nothing where nothing was decided
abbrev pub IsWritten : Result Decided Undone → (s : ℕ) → (written after : Option (List ℕ)) → (write_rose : Type 0) → Type 0
IsWritten (Ok d) s written after write_rose =
    ((s ≡ d.status.0) × Appends written after d.text.items)
    ⊎ ((s ≡ 1) × write_rose × AppendsFront written after d.text.items)
IsWritten (Err ReadFault) s written after write_rose = (s ≡ 3) × (after ≡ written)
IsWritten (Err OutOfMemory) s written after write_rose = (s ≡ 9) × (after ≡ written)
