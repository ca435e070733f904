-- The forms of rules may be shared by threads.
use denote.Param.Send.{IsSync, sendable}
use Rattle.std.proofs.Crossing.{Box-sync}
use Rattle.ftl_base.proofs.comparison.Cmp.TheSendSync as comparison
use Rattle.ftl_base.proofs.val.Val.TheSendSync as value
use Rattle.ftl_step_value.proofs.forms.fold_form.FoldForm.TheSendSync as fold
use Rattle.ftl_step_value.proofs.forms.operator.Operator.TheSendSync as operator
use Rattle.ftl_step_value.proofs.forms.step_form.Question.TheLaws.TheKnot as knot
use Rattle.ftl_step_value.specs.contracts.forms.step_form.RuleForm as RuleForm
use Rattle.ftl_step_value.specs.contracts.forms.step_form.StepForm as StepForm

form_sync : IsSync (StepForm.the_field).row
form_sync =
    search (
      knot.sync-StepForm,
      operator.the_field_sync,
      comparison.the_field_sync,
      value.the_sync,
      Box-sync,
      sendable,
    ) depth 30

pub rule_form_sync : IsSync RuleForm.the_row
rule_form_sync = search (form_sync, fold.the_sync, sendable) depth 30
