use Rattle.std.proofs.Common.{◌≢◌, ℕ, ◌<◌, [], get_or}
use Rattle.ftl_cursors.specs.classes.ClassSets.{HasClass}
use Rattle.ftl_cursors.proofs.classes.sets.visited_classes.Given as goal

abbrev pub invariant-loop-class : goal.invariant-loop-class
invariant-loop-class l = (k : ℕ) → k < l.class → get_or l.visits k [] ≢ [] → HasClass l.set k
