use Rattle.std.proofs.Common.{◌<◌}
use Rattle.ftl_run.proofs.solve.workers.worker_count.Given as goal

abbrev pub invariant-loop-set : goal.invariant-loop-set
invariant-loop-set l = l.busy < l.workers
