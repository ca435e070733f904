use Rattle.std.proofs.Common.{ap}
use Rattle.ftl_meaning.specs.declared.faults.info.ChildInfo.{ChildInfo}
use Rattle.ftl_checked.proofs.grammars.forms.form.Goals as goal

pub returns-in-Own-clause-form : goal.returns-in-Own-clause-form
returns-in-Own-clause-form c = rw c.in-Own.is (c.own_form.ensures.form c.in-Own.field-0)

pub returns-in-Kid-clause-form : goal.returns-in-Kid-clause-form
returns-in-Kid-clause-form c =
    rw c.in-Kid.is (c.kid_form.ensures.form c.args.grammar.now c.args.class c.in-Kid.field-1
    (ap (λ (i : ChildInfo). i.many) c.child_of-many.ensures.info))
