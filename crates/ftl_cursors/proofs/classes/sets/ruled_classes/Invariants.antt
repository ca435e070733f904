use Rattle.std.proofs.Common.{◌≡◌, ℕ, ◌<◌, true, [], get_or}
use Rattle.ftl_cursors.specs.classes.ClassSets.{HasClass, has_rule}
use Rattle.ftl_cursors.proofs.classes.sets.ruled_classes.Given as goal

abbrev pub invariant-loop-class : goal.invariant-loop-class
invariant-loop-class l = (k : ℕ) → k < l.class → has_rule (get_or l.visits k []) ≡ true → HasClass l.set k
