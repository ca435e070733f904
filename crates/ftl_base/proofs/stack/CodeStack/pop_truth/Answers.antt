use Rattle.ftl_base.proofs.RowsNow.{truth_popped}
use Rattle.ftl_base.proofs.stack.CodeStack.pop_truth.Goals as goal

pub returns-clause-entries : goal.returns-clause-entries
returns-clause-entries c =
    rw c.index.ensures (truth_popped _ _ c.index.result.now c.self.view_is c.self.invariant c.requires.last)
