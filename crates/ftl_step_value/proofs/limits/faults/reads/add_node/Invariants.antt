use Rattle.std.proofs.Common.{◌+◌}
use Rattle.ftl_deps.specs.reads.Meant.{meant}
use Rattle.ftl_schedule.specs.stages.Stages.{stages_of}
use Rattle.ftl_step_value.specs.limits.faults.StageReads.{AreCounts, HaveRoom, cells_before}
use Rattle.ftl_step_value.proofs.limits.faults.reads.add_node.Given as goal

abbrev pub invariant-loop-attr : goal.invariant-loop-attr
invariant-loop-attr l = record {
  so_far : AreCounts (meant l.tree.checked) (stages_of l.placed) l.tree.tree
      (cells_before (meant l.tree.checked) l.tree.tree l.node + l.attr-index) l.counts;
  room : HaveRoom (cells_before (meant l.tree.checked) l.tree.tree l.node + l.attr-index) l.counts;
}
