-- How whole commands follow their stages.
use Rattle.std.proofs.Common.{inl, inr, refl, sym, subst, Result, Ok, Err, IfOk}
use Rattle.std.specs.Prelude.{IsErr}
use Rattle.ftl_answer.specs.answers.Stages.{Stage, Then, ends, hands_on}
use Rattle.ftl_answer.specs.reading.sections.Outcomes.{IsOutcome, answer_of}
use Rattle.ftl_answer.specs.declared.reading.sections.decision.Decided.{Decided}
use Rattle.ftl_answer.specs.declared.reading.sections.decision.Undecided.{Undecided}
use Rattle.ftl_answer.specs.declared.reading.sections.decision.Undecided.TheVariants.{OutOfMemory, Refused}
use Rattle.ftl_answer.specs.reading.requests.RulesAnswers.{EndsIn, IsEndOf}

-- the failure, as a result of this type
abbrev failed : (X : Type 0) → Undecided → Result X Undecided
failed X u = Err u

-- where the first of two stages ends, both end
pub end_first : {X Y : Type 0} (first : Stage Y) (second : Y → Stage ⊥) (view : X → Y) (u : Undecided)
    → IsOutcome first view (failed X u) → EndsIn (Then first second) (Err u)
end_first first second view (Refused d) may = inl (answer_of d, may, refl)
end_first first second view OutOfMemory may = tt

-- where the first hands on a value, both end as the second ends with it
pub end_second : {Y : Type 0} (first : Stage Y) (second : Y → Stage ⊥) (y : Y) (r : Result Decided Undecided)
    → first (hands_on y) → EndsIn (second y) r → EndsIn (Then first second) r
end_second first second y (Ok d) may goes = inr (y, may, goes)
end_second first second y (Err (Refused d)) may goes = inr (y, may, goes)
end_second first second y (Err OutOfMemory) may goes = tt

no_ok : {X E : Type 0} (r : Result X E) (P : X → Type 0) → IsErr r → IfOk r P
no_ok (Ok x) P is = absurd cc
no_ok (Err e) P is = tt

-- the answer that the stages ended with
pub if_ended : {E : Type 0} (stage : Stage ⊥) (told : Result Decided Undecided) (r : Result Decided E)
    → EndsIn stage told → IsEndOf told r → IfOk r (λ d. stage (ends (answer_of d)))
if_ended {E = E} stage (Ok d) r holds is =
    subst (λ (x : Result Decided E). IfOk x (λ d. stage (ends (answer_of d)))) (sym is) holds
if_ended {E = E} stage (Err (Refused d)) r holds is =
    subst (λ (x : Result Decided E). IfOk x (λ d. stage (ends (answer_of d)))) (sym is) holds
if_ended stage (Err OutOfMemory) r holds is = no_ok r (λ d. stage (ends (answer_of d))) is
