-- The texts compute, digits included.
use Rattle.std.proofs.Common.{None, ap, refl, sym}
use Rattle.std.specs.Fmt.{digits}
use Rattle.ftl_meaning.specs.faults.FirstFault.{first_fault}
use Rattle.ftl_edits.specs.declared.meaning.fault.EditFault.TheVariants as edit
use Rattle.ftl_noncircular.specs.declared.search.fault.CircularFault.TheVariants as circle
use Rattle.ftl_answer.specs.refusals.GrammarLines.{grammar_line}
use Rattle.ftl_answer.specs.refusals.PlanLines.{plan_line}
use Rattle.ftl_answer.specs.answers.Answer.{refused}
use Rattle.ftl_answer.specs.answers.Stages.{unless}
use Rattle.ftl_answer.specs.answers.Texts.{checked_grammar}
use Rattle.ftl_answer.proofs.answers.Ones.{handed}
use Rattle.ftl_answer.proofs.answers.worked.worked_stages.Goals as goal

pub returns : goal.returns
unfolding digits
returns c = record {
  grammar = refl;
  schedule = refl;
  document = refl;
  edits = refl;
  width = λ width g c kept.
      ap (λ c. c.width)
      (handed (λ fault. refused 5 (grammar_line fault)) (first_fault g) (checked_grammar width g) c kept).1;
  noncircular = λ c none. (refl, none);
  circular = λ c class attr first. (circle.Circular class None attr, (λ e. absurd cc), first, refl);
  no_edits = λ c t scanned at none. (edit.Syntax at, (λ e. absurd cc), none, refl);
  reads = λ c s t is. sym (ap (λ fault. unless (λ fault. refused 7 (plan_line fault)) fault t) is);
}
