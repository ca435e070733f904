-- The lines compute, digits included.
use Rattle.std.proofs.Common.{refl}
use Rattle.std.specs.Fmt.{digits}
use Rattle.ftl_answer.proofs.refusals.worked.lines_of_grammars.Goals as goal

pub returns-clause-classes : goal.returns-clause-classes
unfolding digits
returns-clause-classes c = refl

pub returns-clause-all : goal.returns-clause-all
unfolding digits
returns-clause-all c = refl
