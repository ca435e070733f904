use Rattle.std.proofs.Common.{◌<◌, ℕ}
use Rattle.ftl_noncircular.specs.search.Closing.{IsOwnCircle}
use Rattle.ftl_noncircular.proofs.search.circles.own_circle.Given as goal

abbrev pub ghost-is_own_circle : goal.ghost-is_own_circle
ghost-is_own_circle g a = g.g

abbrev pub invariant-loop-attr : goal.invariant-loop-attr
invariant-loop-attr g l = (b : ℕ) → b < l.attr → IsOwnCircle g.g l.shape.places l.class l.all b → ⊥
