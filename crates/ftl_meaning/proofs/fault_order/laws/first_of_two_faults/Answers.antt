use Rattle.std.proofs.Common.{refl}
use Rattle.ftl_meaning.proofs.faults.WorkedFormulas.{of-num}
use Rattle.ftl_meaning.proofs.fault_order.laws.first_of_two_faults.Goals as goal

pub returns-clause-none : goal.returns-clause-none
returns-clause-none c = simp (of-num) refl

pub returns-clause-alone : goal.returns-clause-alone
returns-clause-alone c = simp (of-num) refl

pub returns-clause-limits : goal.returns-clause-limits
returns-clause-limits c = refl

pub returns-clause-one_space : goal.returns-clause-one_space
returns-clause-one_space c = simp (of-num) refl

pub returns-clause-root : goal.returns-clause-root
returns-clause-root c = simp (of-num) refl

pub returns-clause-unknown : goal.returns-clause-unknown
returns-clause-unknown c = simp (of-num) refl

pub returns-clause-within : goal.returns-clause-within
returns-clause-within c = simp (of-num) refl

pub returns-clause-inherits : goal.returns-clause-inherits
returns-clause-inherits c = simp (of-num) refl

pub returns-clause-rules : goal.returns-clause-rules
returns-clause-rules c = simp (of-num) refl
