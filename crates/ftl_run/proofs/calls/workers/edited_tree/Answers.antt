use Rattle.std.proofs.Common.{Result, Ok, Err, subst, ℕ, List}
use Rattle.ftl_answer.specs.answers.Answers.{edited_by, text_or_none}
use Rattle.ftl_answer.specs.answers.Stages.{ends, hands_on}
use Rattle.ftl_answer.specs.answers.Texts.{edits}
use Rattle.ftl_edits.specs.declared.meaning.types.Edit.{Edit}
use Rattle.ftl_meaning.specs.faults.Checked.{CheckedGrammar}
use Rattle.ftl_answer.specs.declared.reading.sections.decision.Undecided.{Undecided}
use Rattle.ftl_answer.specs.reading.sections.Outcomes.{IsOutcome, answer_of}
use Rattle.ftl_answer.proofs.reading.requests.Endings.{end_first, end_second}
use Rattle.ftl_run.proofs.calls.workers.edited_tree.Goals as goal

-- the failure, as a result of this type
abbrev failed : Undecided → Result (List Edit) Undecided
failed u = Err u

pub returns-in_ok-changed_tree-in-Ok : goal.returns-in_ok-changed_tree-in-Ok
returns-in_ok-changed_tree-in-Ok g c =
    let k = c.args.checked.now in
    let t = c.args.tree.tree in
    record {
      outcome =
          end_second (edits k t (text_or_none c.args.text)) (edited_by k t) c.in-Ok.edits
          (Ok c.in_ok-changed_tree-in-Ok.field-0)
          (subst (λ (text : List ℕ). edits k t text (hands_on c.in-Ok.edits))
          c.text_of.ensures.text c.in-Ok.ensures.outcome)
          (subst
          (λ (x : CheckedGrammar). edited_by x t c.in-Ok.edits (ends (answer_of c.in_ok-changed_tree-in-Ok.field-0)))
          c.requires.grammar c.in_ok-changed_tree-in-Ok.ensures.outcome);
    }

pub returns-in-Err : goal.returns-in-Err
returns-in-Err g c =
    let k = c.args.checked.now in
    let t = c.args.tree.tree in
    record {
      outcome =
          end_first (edits k t (text_or_none c.args.text)) (edited_by k t) (λ (es : List Edit). es) c.in-Err.end
          (subst (λ (text : List ℕ). IsOutcome (edits k t text) (λ (es : List Edit). es) (failed c.in-Err.end))
          c.text_of.ensures.text c.in-Err.ensures.outcome);
    }
