use Rattle.std.proofs.Common.{◌<◌, ℕ}
use Rattle.ftl_noncircular.specs.search.Closing.{HoldsOfNone, IsChildCircle}
use Rattle.ftl_noncircular.proofs.search.circles.first_circle.Given as goal

abbrev pub ghost-own_circle : goal.ghost-own_circle
ghost-own_circle g a = g.g

abbrev pub ghost-child_circle : goal.ghost-child_circle
ghost-child_circle g a = g.g

abbrev pub invariant-loop-child : goal.invariant-loop-child
invariant-loop-child g l =
    (d : ℕ) → d < l.child → HoldsOfNone (IsChildCircle g.g l.shape.places l.class d l.all l.without)
