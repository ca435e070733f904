-- Stages: each ends with an answer, or hands a value on to the next.
use Rattle.std.specs.Prelude.{◌≡◌, ◌≢◌, ◌⊎◌, Option, Some, None, Result, Ok, Err}
use Rattle.ftl_answer.specs.answers.Answer.{Answer}

-- what a stage comes to: the end, with the answer, or a value that is handed on
pub data Outcome (X : Type 0) : Type 0 where
  ends : Answer → Outcome X
  hands_on : X → Outcome X

-- which outcomes a stage may have
abbrev pub Stage : Type 0 → Type 1
Stage X = Outcome X → Type 0

-- it has this outcome alone
abbrev pub Is : {X : Type 0} → Outcome X → Stage X
Is expected outcome = outcome ≡ expected

-- the first stage ends, or it hands on a value and the second goes on with that
abbrev pub Then : {X Y : Type 0} → Stage X → (X → Stage Y) → Stage Y
Then first second outcome =
    ((a : Answer) × first (ends a) × (outcome ≡ ends a)) ⊎ ((x : _) × first (hands_on x) × second x outcome)

-- what a fault or none comes to
abbrev pub unless : {X E : Type 0} → (E → Answer) → Option E → X → Outcome X
unless refusal None x = hands_on x
unless refusal (Some fault) x = ends (refusal fault)

-- what a result comes to
abbrev pub result_outcome : {X E : Type 0} → (E → Answer) → Result X E → Outcome X
result_outcome refusal (Ok x) = hands_on x
result_outcome refusal (Err fault) = ends (refusal fault)

-- what a call answers, by the results that it may have: its value is handed on, and a fault told, but for want of memory
abbrev pub ResultStage : {X E : Type 0} → (memory : E) → (E → Answer) → (Result X E → Type 0) → Stage X
ResultStage memory refusal Answers (hands_on x) = Answers (Ok x)
ResultStage memory refusal Answers (ends a) = (fault : _) × (fault ≢ memory) × Answers (Err fault) × (a ≡ refusal fault)
