-- What is handed on, and the refusals of faults.
use Rattle.std.proofs.Common.{◌≡◌, ◌≢◌, sym, ap, subst, Option, Some, None, Result, Ok, Err}
use Rattle.ftl_base.specs.declared.width.Width.{Width}
use Rattle.ftl_grammar.specs.declared.syntax.rules.Grammar.{Grammar}
use Rattle.ftl_meaning.specs.faults.Checked.{CheckedGrammar, answer_by}
use Rattle.ftl_meaning.specs.declared.faults.fault.GrammarFault.{GrammarFault}
use Rattle.ftl_answer.specs.answers.Answer.{Answer}
use Rattle.ftl_answer.specs.answers.Stages.{Outcome, Stage, ends, hands_on, unless}
use Rattle.ftl_answer.specs.answers.Texts.{checked_grammar}
use Rattle.ftl_answer.specs.reading.sections.Outcomes.{IsOutcome}
use Rattle.ftl_answer.specs.declared.reading.sections.decision.Undecided.{Undecided}
use Rattle.ftl_answer.specs.declared.reading.sections.decision.Undecided.TheVariants.{OutOfMemory, Refused}
use Rattle.ftl_answer.specs.reading.sections.RefusalOf.{IsRefusalOf}

-- the end, at an outcome of this type
abbrev ended : (X : Type 0) → Answer → Outcome X
ended X a = ends a

-- the failure, as a result of this type
abbrev failed : (X : Type 0) → Undecided → Result X Undecided
failed X u = Err u

-- where a stage may end with the refusal of a fault, a call may
pub may_refuse : {X Y E : Type 0} (stage : Stage Y) (view : X → Y) (memory : E) (tell : E → Answer) (fault : E) (u : Undecided)
    → IsRefusalOf memory tell fault u → (fault ≢ memory → stage (ended Y (tell fault))) → IsOutcome stage view (failed X u)
may_refuse {Y = Y} stage view memory tell fault (Refused d) is may =
    subst (λ (b : Answer). stage (ended Y b)) (sym is.1) (may is.0)
may_refuse stage view memory tell fault OutOfMemory is may = tt

-- the grammar is handed on that is accepted
pub grammar_handed : (tell : GrammarFault → Answer) (o : Option GrammarFault) (w : Width) (g : Grammar) (c : CheckedGrammar)
    → answer_by o g w ≡ Ok c → hands_on c ≡ unless tell o (checked_grammar w g)
grammar_handed tell None w g c e = ap hands_on cc
grammar_handed tell (Some x) w g c e = absurd cc

-- its fault is refused
pub grammar_ends : (tell : GrammarFault → Answer) (o : Option GrammarFault) (w : Width) (g : Grammar) (x : GrammarFault)
    → answer_by o g w ≡ Err x → ended CheckedGrammar (tell x) ≡ unless tell o (checked_grammar w g)
grammar_ends tell None w g x e = absurd cc
grammar_ends tell (Some y) w g x e = ap (λ (f : GrammarFault). ended CheckedGrammar (tell f)) cc

-- the steps of a grammar that is checked
pub ruleset grammar_steps = (may_refuse, grammar_handed, grammar_ends)
