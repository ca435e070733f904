-- The text computes, digits included.
use Rattle.std.proofs.Common.{refl}
use Rattle.std.specs.Fmt.{digits}
use Rattle.ftl_boxes.proofs.worked.samples_of_one_piece.Goals as goal

pub returns-clause-stack : goal.returns-clause-stack
unfolding digits
returns-clause-stack c = refl

pub returns-clause-block : goal.returns-clause-block
unfolding digits
returns-clause-block c = refl

pub returns-clause-inline : goal.returns-clause-inline
unfolding digits
returns-clause-inline c = refl

pub returns-clause-float : goal.returns-clause-float
unfolding digits
returns-clause-float c = refl

pub returns-clause-table : goal.returns-clause-table
unfolding digits
returns-clause-table c = refl

pub returns-clause-flow : goal.returns-clause-flow
unfolding digits
returns-clause-flow c = refl
