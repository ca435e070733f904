-- How the results of calls follow their stages.
use Rattle.std.proofs.Common.{inl, inr, refl, sym, subst, Result, Ok, Err}
use Rattle.ftl_answer.specs.answers.Answer.{Answer}
use Rattle.ftl_answer.specs.answers.Stages.{Outcome, Stage, Then, ends, hands_on}
use Rattle.ftl_answer.specs.reading.sections.Outcomes.{Ends, IsOutcome, answer_of}
use Rattle.ftl_answer.specs.declared.reading.sections.decision.Undecided.{Undecided}
use Rattle.ftl_answer.specs.declared.reading.sections.decision.Undecided.TheVariants.{OutOfMemory, Refused}
use Rattle.ftl_answer.proofs.reading.sections.FaultEnds.{may_refuse}

-- the end, at an outcome of this type
abbrev ended : (X : Type 0) → Answer → Outcome X
ended X a = ends a

-- the failure, as a result of this type
abbrev failed : (X : Type 0) → Undecided → Result X Undecided
failed X u = Err u

-- where the stage may end with an answer, the call may
pub may_end : {X Y : Type 0} (stage : Stage Y) (view : X → Y) (a : Answer) (u : Undecided) → Ends a u → stage (ends a)
    → IsOutcome stage view (Err u)
may_end {Y = Y} stage view a (Refused d) is may = subst (λ (b : Answer). stage (ended Y b)) (sym is) may
may_end stage view a OutOfMemory is may = tt

-- where the first of two stages ends, both end
pub first_ends : {X Y Z W : Type 0} (first : Stage Y) (second : Y → Stage W) (view : X → Y) (seen : Z → W) (u : Undecided)
    → IsOutcome first view (failed X u) → IsOutcome (Then first second) seen (failed Z u)
first_ends first second view seen (Refused d) may = inl (answer_of d, may, refl)
first_ends first second view seen OutOfMemory may = tt

-- where the first hands on a value, both come to what the second comes to with it
pub then_second : {Y Z W : Type 0} (first : Stage Y) (second : Y → Stage W) (seen : Z → W) (y : Y) (r : Result Z Undecided)
    → first (hands_on y) → IsOutcome (second y) seen r → IsOutcome (Then first second) seen r
then_second first second seen y (Ok z) may then = inr (y, may, then)
then_second first second seen y (Err (Refused d)) may then = inr (y, may, then)
then_second first second seen y (Err OutOfMemory) may then = tt

-- the steps of a stage behind one that tells
pub ruleset second_steps = (may_refuse, then_second)
