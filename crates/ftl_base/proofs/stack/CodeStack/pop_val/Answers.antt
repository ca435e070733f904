use Rattle.ftl_base.proofs.RowsNow.{value_popped}
use Rattle.ftl_base.proofs.stack.CodeStack.pop_val.Goals as goal

pub returns-clause-entries : goal.returns-clause-entries
returns-clause-entries c =
    rw c.index.ensures (value_popped _ _ c.index.result.now c.self.view_is c.self.invariant c.requires.last)
