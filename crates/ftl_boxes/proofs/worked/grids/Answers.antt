-- The text computes, digits included.
use Rattle.std.proofs.Common.{refl}
use Rattle.std.specs.Fmt.{digits}
use Rattle.ftl_boxes.proofs.worked.grids.Goals as goal

pub returns-clause-one_cell : goal.returns-clause-one_cell
unfolding digits
returns-clause-one_cell c = refl

pub returns-clause-four_cells : goal.returns-clause-four_cells
unfolding digits
returns-clause-four_cells c = refl

pub returns-clause-five_cells : goal.returns-clause-five_cells
unfolding digits
returns-clause-five_cells c = refl

pub returns-clause-eight_cells : goal.returns-clause-eight_cells
unfolding digits
returns-clause-eight_cells c = refl

pub returns-clause-third : goal.returns-clause-third
unfolding digits
returns-clause-third c = refl

pub returns-clause-fifth : goal.returns-clause-fifth
unfolding digits
returns-clause-fifth c = refl
