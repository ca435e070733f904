use Rattle.std.proofs.Common.{◌<◌, ℕ}
use Rattle.ftl_noncircular.specs.search.Closing.{IsChildCircle}
use Rattle.ftl_noncircular.proofs.search.circles.child_circle.Given as goal

abbrev pub ghost-is_child_circle : goal.ghost-is_child_circle
ghost-is_child_circle g a = g.g

abbrev pub invariant-loop-attr : goal.invariant-loop-attr
invariant-loop-attr g l =
    (b : ℕ) → b < l.attr → IsChildCircle g.g l.shape.places l.class l.child l.all l.without b → ⊥
