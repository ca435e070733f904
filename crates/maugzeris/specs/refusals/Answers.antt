-- When the result of a call is an outcome of a stage.
use Rattle.std.specs.Prelude.{◌≡◌, ℕ, nat_lt, if◌then◌else◌, List, [], length, Result, Ok, Err}
use Rattle.ftl_model.specs.layout.Limits.{most_page_bytes}
use Rattle.ftl_answer.specs.answers.Answer.{Answer, answer, refused}
use Rattle.ftl_answer.specs.answers.Stages.{Is, Stage, ends, hands_on}
use Rattle.ftl_answer.specs.refusals.PageLines.{too_long_line}
use Rattle.ftl_answer.specs.declared.reading.sections.decision.Undecided.{Undecided}
use Rattle.ftl_answer.specs.declared.reading.sections.decision.Undecided.TheVariants as end
use Rattle.maugzeris.specs.declared.refusals.refusal.Refusal.{Refusal}
use Rattle.maugzeris.specs.declared.refusals.refusal.Refusal.TheVariants.{Refused, OutOfMemory}

-- the refusal with which a stage ends
abbrev pub refusal_of : Undecided → Refusal
refusal_of (end.Refused d) = Refused d.status d.text
refusal_of end.OutOfMemory = OutOfMemory

-- its status; 9 where memory ran out
abbrev pub status_told : Refusal → ℕ
status_told (Refused status line) = status.0
status_told OutOfMemory = 9

-- its line with the line feed; nothing where memory ran out
abbrev pub line_told : Refusal → List ℕ
line_told (Refused status line) = line.items
line_told OutOfMemory = []

-- the refusal is this answer, unless memory ran out
abbrev pub Tells : Answer → Refusal → Type 0
Tells a (Refused status line) = answer status.0 line.items ≡ a
Tells a OutOfMemory = Unit {0}

-- the stage may hand the value on, seen through view, or end with the refusal, unless memory ran out
abbrev pub Answers : {X Y : Type 0} → Stage Y → (X → Y) → Result X Refusal → Type 0
Answers stage view (Ok x) = stage (hands_on (view x))
Answers stage view (Err (Refused status line)) = stage (ends (answer status.0 line.items))
Answers stage view (Err OutOfMemory) = Unit {0}

-- a text, where it is no longer than a page may be
abbrev pub short_text : (text : List ℕ) → Stage (List ℕ)
short_text text =
    Is (if nat_lt most_page_bytes (length text) then ends (refused 4 too_long_line) else hands_on text)
