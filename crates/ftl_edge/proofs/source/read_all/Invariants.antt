use Rattle.std.proofs.Common.{◌+◌, ◌-◌, ◌≤◌, take, vec_len}
use Rattle.std.specs.Io.KnownBytes.{Consumes}
use Rattle.ftl_edge.specs.Counts.{raised}
use Rattle.ftl_edge.proofs.source.read_all.Given as goal

abbrev pub invariant-loop-filled : goal.invariant-loop-filled
invariant-loop-filled g l = record {
  held : l.filled ≤ vec_len l.bytes;
  at_most : l.filled ≤ l.limit + 1;
  consumed : Consumes (g.S.Source.remaining l.initial.source) (g.S.Source.remaining l.source) (take l.filled
      l.bytes.items);
  counted : raised (g.S.Source.taken l.initial.source) l.filled ≤ g.S.Source.taken l.source;
  no_more : g.S.Source.taken l.source ≤ g.S.Source.taken l.initial.source + l.filled;
  kept : g.S.Source.fault_count l.initial.source ≤ g.S.Source.fault_count l.source;
  endless : g.S.Source.never_ends l.initial.source → g.S.Source.never_ends l.source;
  turns : g.S.Source.calls l.source ≤ g.S.Source.calls l.initial.source + l.filled;
}

abbrev pub decreases-loop-filled : goal.decreases-loop-filled
decreases-loop-filled g l = l.limit + 1 - l.filled
