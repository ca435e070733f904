-- The lines compute.
use Rattle.std.proofs.Common.{refl}
use Rattle.std.specs.Fmt.{digits}
use Rattle.ftl_answer.proofs.worked_lines.laws.lines_of_edits.Goals as goal

pub returns-clause-syntax : goal.returns-clause-syntax
unfolding digits
returns-clause-syntax c = refl

pub returns-clause-many : goal.returns-clause-many
unfolding digits
returns-clause-many c = refl

pub returns-clause-node : goal.returns-clause-node
unfolding digits
returns-clause-node c = refl

pub returns-clause-input : goal.returns-clause-input
unfolding digits
returns-clause-input c = refl

pub returns-clause-touched : goal.returns-clause-touched
unfolding digits
returns-clause-touched c = refl
