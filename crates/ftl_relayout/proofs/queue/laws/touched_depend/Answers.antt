use Rattle.ftl_relayout.proofs.queue.Depending.{depends}
use Rattle.ftl_relayout.proofs.queue.laws.touched_depend.Goals as goal

pub returns : goal.returns
returns c = record { depend = depends }
