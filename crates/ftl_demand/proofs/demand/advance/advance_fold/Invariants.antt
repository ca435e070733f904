use Rattle.std.proofs.Common.{◌≡◌, ◌≤◌, List, Some}
use Rattle.ftl_deps.specs.reads.Meant.{meant}
use Rattle.ftl_model.specs.layout.Values.{Value}
use Rattle.ftl_visit.specs.step_reads.StepReads.{kids_in}
use Rattle.ftl_demand.specs.demand.Frames.{fold_over_first}
use Rattle.ftl_demand.specs.demand.Words.{IsSolution}
use Rattle.ftl_demand.proofs.demand.advance.advance_fold.Given as goal

-- so far is what the fold gives over the kids before this one
abbrev pub invariant-loop-kid : goal.invariant-loop-kid
invariant-loop-kid l = record {
  step : l.top.step ≡ l.fn.top.step;
  cell : l.top.cell ≡ l.fn.top.cell;
  taken : l.top.taken ≡ l.kid;
  held : l.top.so_far ≡ Some l.so_far;
  so_far_is : (values : List Value) → IsSolution (meant l.site.tree.now.checked) l.site.tree.now.tree values
      → l.so_far ≡ fold_over_first l.site.tree.now values l.fn.top.step l.kid;
  few : l.kid ≤ kids_in l.site.tree.now l.fn.top.step.node l.child;
  room : l.buffers.stack.room ≡ l.fn.buffers.stack.room;
}
