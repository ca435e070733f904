-- When the result of a call is an outcome of a stage.
use Rattle.std.specs.Prelude.{◌≡◌, Result, Ok, Err}
use Rattle.ftl_answer.specs.answers.Answer.{Answer}
use Rattle.ftl_answer.specs.answers.Stages.{Stage, ends, hands_on}
use Rattle.ftl_answer.specs.declared.reading.sections.decision.Decided.{Decided}
use Rattle.ftl_answer.specs.declared.reading.sections.decision.Undecided.{Undecided}
use Rattle.ftl_answer.specs.declared.reading.sections.decision.Undecided.TheVariants.{OutOfMemory, Refused}

-- the status to end with, and what is written
abbrev pub answer_of : Decided → Answer
answer_of d = record { status = d.status.0; text = d.text.items }

-- the end is this answer, unless memory ran out
abbrev pub Ends : Answer → Undecided → Type 0
Ends a (Refused d) = answer_of d ≡ a
Ends a OutOfMemory = Unit {0}

-- the stage may hand the value on, seen through view, or end with the answer, unless memory ran out
abbrev pub IsOutcome : {X Y : Type 0} → Stage Y → (X → Y) → Result X Undecided → Type 0
IsOutcome stage view (Ok x) = stage (hands_on (view x))
IsOutcome stage view (Err (Refused d)) = stage (ends (answer_of d))
IsOutcome stage view (Err OutOfMemory) = Unit {0}
