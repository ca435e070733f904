use Rattle.std.proofs.Common.{refl}
use Rattle.ftl_meaning.proofs.faults.WorkedFormulas.{of-num, of-reading}
use Rattle.ftl_meaning.proofs.fault_order.laws.first_of_two_in_a_rule.Goals as goal

pub returns-clause-form : goal.returns-clause-form
returns-clause-form c = simp (of-num, of-reading) refl

pub returns-clause-second : goal.returns-clause-second
returns-clause-second c = simp (of-num, of-reading) refl
