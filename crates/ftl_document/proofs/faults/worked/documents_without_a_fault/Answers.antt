use Rattle.std.proofs.Common.{refl}
use Rattle.ftl_meaning.proofs.faults.WorkedFormulas.{of-num}
use Rattle.ftl_document.proofs.faults.worked.documents_without_a_fault.Goals as goal

pub returns-clause-lawful : goal.returns-clause-lawful
returns-clause-lawful c = simp (of-num) refl
