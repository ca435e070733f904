-- The text computes, digits included.
use Rattle.std.proofs.Common.{refl}
use Rattle.std.specs.Fmt.{digits}
use Rattle.ftl_boxes.proofs.worked.samples_of_eight_pieces.Goals as goal

pub returns-clause-stack : goal.returns-clause-stack
unfolding digits
returns-clause-stack c = refl

pub returns-clause-float : goal.returns-clause-float
unfolding digits
returns-clause-float c = refl
