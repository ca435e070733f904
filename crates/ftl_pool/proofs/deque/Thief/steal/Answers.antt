use Rattle.crossbeam_deque.specs.Handles.{view}
use Rattle.ftl_pool.proofs.Deques.{takes_fairly}
use Rattle.ftl_pool.proofs.deque.Thief.steal.Goals as goal

pub steal_as-requires-clause-takes : goal.steal_as-requires-clause-takes
steal_as-requires-clause-takes c = takes_fairly c.self.inside.pass.id 1 (view c.self.inside.pass)
