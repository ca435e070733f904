-- The lines compute.
use Rattle.std.proofs.Common.{refl}
use Rattle.ftl_answer.proofs.worked_lines.laws.lines_of_circles.Goals as goal

pub returns-clause-own : goal.returns-clause-own
returns-clause-own c = refl

pub returns-clause-kids : goal.returns-clause-kids
returns-clause-kids c = refl
