use Rattle.std.proofs.Common.{◌≡◌, drop}
use Rattle.ftl_cursors.specs.classes.ClassSets.{has_rule}
use Rattle.ftl_cursors.proofs.classes.sets.has_rule.Given as goal

abbrev pub invariant-loop-place : goal.invariant-loop-place
invariant-loop-place l = has_rule (drop l.place l.ops) ≡ has_rule l.ops
