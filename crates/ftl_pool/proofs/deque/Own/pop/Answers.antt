use Rattle.crossbeam_deque.specs.Handles.{worker_port, worker_view}
use Rattle.ftl_pool.proofs.Deques.{takes_fairly}
use Rattle.ftl_pool.proofs.deque.Own.pop.Goals as goal

pub pop_as-requires-clause-fifo : goal.pop_as-requires-clause-fifo
pop_as-requires-clause-fifo c _ = takes_fairly (worker_port c.self.inside.deque) 1 (worker_view c.self.inside.deque)
