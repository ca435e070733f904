use Rattle.std.proofs.Common.{[], ◌∷◌}
use Rattle.crossbeam_deque.specs.Handles.{worker_port, worker_view}
use Rattle.ftl_pool.proofs.Deques.{puts_fairly}
use Rattle.ftl_pool.proofs.deque.Own.push.Goals as goal

pub push_as-requires-clause-pushes : goal.push_as-requires-clause-pushes
push_as-requires-clause-pushes c =
    puts_fairly (worker_port c.self.inside.deque) (worker_view c.self.inside.deque) (c.args.item ∷ [])
