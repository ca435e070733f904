-- How the results of calls follow their stages.
use Rattle.std.proofs.Common.{◌≡◌, inl, inr, refl, sym, subst, Result, Ok, Err}
use Rattle.ftl_answer.specs.answers.Answer.{Answer, answer}
use Rattle.ftl_answer.specs.answers.Stages.{Outcome, Stage, Then, ends, hands_on}
use Rattle.ftl_meaning.specs.faults.Checked.{CheckedGrammar}
use Rattle.ftl_answer.specs.reading.sections.Outcomes.{IsOutcome}
use Rattle.ftl_answer.specs.declared.reading.sections.decision.Undecided.{Undecided}
use Rattle.ftl_answer.specs.declared.reading.sections.decision.Undecided.TheVariants as end
use Rattle.maugzeris.specs.declared.refusals.refusal.Refusal.{Refusal}
use Rattle.maugzeris.specs.declared.refusals.refusal.Refusal.TheVariants.{Refused, OutOfMemory}
use Rattle.maugzeris.specs.refusals.Answers.{Answers, Tells, refusal_of}

-- the failures, as results of these types
abbrev pub undecided : (X : Type 0) → Undecided → Result X Undecided
undecided X u = Err u

abbrev pub failed : (X : Type 0) → Refusal → Result X Refusal
failed X r = Err r

-- the end, at an outcome of this type
abbrev pub ended : (X : Type 0) → Answer → Outcome X
ended X a = ends a

-- where the stage may end with an answer, the call may refuse so
pub may_tell : {X Y : Type 0} (stage : Stage Y) (view : X → Y) (a : Answer) (r : Refusal) → Tells a r → stage (ended Y a)
    → Answers stage view (failed X r)
may_tell {Y = Y} stage view a (Refused status line) is may = subst (λ (b : Answer). stage (ended Y b)) (sym is) may
may_tell stage view a OutOfMemory is may = tt

-- the end of a stage, as a refusal
refusal_told : {X Y Z : Type 0} (stage : Stage Y) (seen : Z → Y) (view : X → Y) (u : Undecided)
    → IsOutcome stage seen (undecided Z u) → Answers stage view (failed X (refusal_of u))
refusal_told stage seen view (end.Refused d) may = may
refusal_told stage seen view end.OutOfMemory may = tt

-- the same of a refusal that is this one
pub told_end : {X Y Z : Type 0} (stage : Stage Y) (seen : Z → Y) (view : X → Y) (u : Undecided) (r : Refusal)
    → r ≡ refusal_of u → IsOutcome stage seen (undecided Z u) → Answers stage view (failed X r)
told_end {X = X} stage seen view u r is may =
    subst (λ (x : Refusal). Answers stage view (failed X x)) (sym is) (refusal_told stage seen view u may)

-- the same of a stage of a grammar that is this one
pub told_of : {X Y Z : Type 0} (stage : CheckedGrammar → Stage Y) (seen : Z → Y) (view : X → Y) (k c : CheckedGrammar)
    (u : Undecided) (r : Refusal) → c ≡ k → r ≡ refusal_of u → IsOutcome (stage c) seen (undecided Z u)
    → Answers (stage k) view (failed X r)
told_of {Z = Z} stage seen view k c u r same is may =
    told_end (stage k) seen view u r is
    (subst (λ (x : CheckedGrammar). IsOutcome (stage x) seen (undecided Z u)) same may)

-- where the first of two stages refuses, both do
pub first_refuses : {X Y Z W : Type 0} (first : Stage Y) (second : Y → Stage W) (view : X → Y) (seen : Z → W)
    (r : Refusal) → Answers first view (failed X r) → Answers (Then first second) seen (failed Z r)
first_refuses first second view seen (Refused status line) may = inl (answer status.0 line.items, may, refl)
first_refuses first second view seen OutOfMemory may = tt

-- where the first hands on a value, both come to what the second comes to with it
pub then_second : {Y Z W : Type 0} (first : Stage Y) (second : Y → Stage W) (seen : Z → W) (y : Y) (r : Result Z Refusal)
    → first (hands_on y) → Answers (second y) seen r → Answers (Then first second) seen r
then_second first second seen y (Ok z) may goes = inr (y, may, goes)
then_second first second seen y (Err (Refused status line)) may goes = inr (y, may, goes)
then_second first second seen y (Err OutOfMemory) may goes = tt

-- the steps of a stage behind one that tells
pub ruleset stage_steps = (may_tell, told_end, first_refuses, then_second)
