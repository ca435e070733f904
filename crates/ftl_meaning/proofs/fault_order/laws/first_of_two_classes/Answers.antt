use Rattle.std.proofs.Common.{refl}
use Rattle.ftl_meaning.proofs.faults.WorkedFormulas.{of-num, of-reading}
use Rattle.ftl_meaning.proofs.fault_order.laws.first_of_two_classes.Goals as goal

pub returns : goal.returns
returns c = record { earlier = simp (of-num, of-reading) refl }
