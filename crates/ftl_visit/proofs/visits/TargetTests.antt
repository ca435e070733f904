-- The derived test of targets is the one that the definitions have.
use Rattle.std.proofs.Common.{◌≡◌, ℕ, Bool, refl, ap}
use Rattle.std.specs.HashMap.{HashMap, get}
use Rattle.ftl_visit.specs.visits.Targets.{at_target, same_target}
use Rattle.ftl_visit.specs.contracts.visits.target.TargetPartialEq.TheImpl as block
use Rattle.ftl_visit.specs.declared.visits.target.Target.{Target}
use Rattle.ftl_visit.specs.declared.visits.target.Target.TheVariants as targets

pub tests_same : (s t : Target) → block.ghosts.eq s t ≡ same_target s t
tests_same (targets.Own k a) (targets.Own l b) = refl
tests_same (targets.Own k a) (targets.Kid l d b) = refl
tests_same (targets.Kid k c a) (targets.Own l b) = refl
tests_same (targets.Kid k c a) (targets.Kid l d b) = refl

-- so is what a map has at a target
pub at_is : {S : Type 0} (m : HashMap Target ℕ S) (x : Target) → get block.ghosts.eq m x ≡ at_target m x
at_is m x = ap (λ (eq : Target → Target → Bool). get eq m x) (λ i s t. tests_same s t i)
