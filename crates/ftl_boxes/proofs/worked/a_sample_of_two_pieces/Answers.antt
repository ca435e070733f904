-- The text computes, digits included.
use Rattle.std.proofs.Common.{refl}
use Rattle.std.specs.Fmt.{digits}
use Rattle.ftl_boxes.proofs.worked.a_sample_of_two_pieces.Goals as goal

pub returns-clause-page : goal.returns-clause-page
unfolding digits
returns-clause-page c = refl
