use Rattle.std.proofs.Common.{◌≤◌, length}
use Rattle.ftl_edge.proofs.Writing.{HasAppended}
use Rattle.ftl_edge.proofs.sink.write_whole.Given as goal

abbrev pub invariant-loop-rest : goal.invariant-loop-rest
invariant-loop-rest g l = record {
  appended : HasAppended l.bytes l.rest (g.K.Sink.written l.initial.sink) (g.K.Sink.written l.sink);
  kept : g.K.Sink.fault_count l.initial.sink ≤ g.K.Sink.fault_count l.sink;
}

abbrev pub decreases-loop-rest : goal.decreases-loop-rest
decreases-loop-rest g l = length l.rest
