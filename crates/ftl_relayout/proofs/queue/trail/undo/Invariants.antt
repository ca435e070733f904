use Rattle.std.proofs.Common.{◌≡◌, ◌<◌, length}
use Rattle.std.specs.List.{All}
use Rattle.ftl_relayout.specs.queue.Trails.{undone}
use Rattle.ftl_relayout.proofs.queue.trail.undo.Given as goal

abbrev pub invariant-loop-before : goal.invariant-loop-before
invariant-loop-before l =
    (All (λ b. b.cell < length l.values) l.trail.items) × (undone l.trail.items l.values ≡ undone l.fn.trail.items l.fn.values)

abbrev pub decreases-loop-before : goal.decreases-loop-before
decreases-loop-before l = length l.trail.items
