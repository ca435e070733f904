-- When a stage ends with the refusal of a fault.
use Rattle.std.specs.Prelude.{◌≡◌, ◌≢◌}
use Rattle.ftl_answer.specs.answers.Answer.{Answer}
use Rattle.ftl_answer.specs.reading.sections.Outcomes.{answer_of}
use Rattle.ftl_answer.specs.declared.reading.sections.decision.Undecided.{Undecided}
use Rattle.ftl_answer.specs.declared.reading.sections.decision.Undecided.TheVariants.{OutOfMemory, Refused}

-- the end is the refusal of the fault, which is another than want of memory, unless memory ran out
abbrev pub IsRefusalOf : {E : Type 0} → (memory : E) → (E → Answer) → (fault : E) → Undecided → Type 0
IsRefusalOf memory refusal fault (Refused d) = (fault ≢ memory) × (answer_of d ≡ refusal fault)
IsRefusalOf memory refusal fault OutOfMemory = Unit {0}
