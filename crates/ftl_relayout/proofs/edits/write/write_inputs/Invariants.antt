use Rattle.std.proofs.Common.{◌≡◌, ◌<◌, length, take}
use Rattle.std.specs.List.{All}
use Rattle.ftl_deps.specs.reads.Meant.{meant}
use Rattle.ftl_relayout.specs.declared.queue.trail.Before.{Before}
use Rattle.ftl_relayout.specs.laws.Edits.{written}
use Rattle.ftl_relayout.specs.queue.Trails.{undone}
use Rattle.ftl_relayout.proofs.edits.write.write_inputs.Given as goal

-- the edits before this one are written
abbrev pub invariant-loop-edit : goal.invariant-loop-edit
invariant-loop-edit l = record {
  written_are : l.values ≡ written (meant l.tree.checked) l.tree.tree (take l.edit-index l.edits) l.fn.values;
  undone_are : undone l.trail.items l.values ≡ l.fn.values;
  within : All (λ (b : Before). b.cell < length l.values) l.trail.items;
}
