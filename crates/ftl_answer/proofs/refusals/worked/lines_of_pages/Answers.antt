-- The lines compute, digits included.
use Rattle.std.proofs.Common.{refl}
use Rattle.std.specs.Fmt.{digits}
use Rattle.ftl_answer.proofs.refusals.worked.lines_of_pages.Goals as goal

pub returns-clause-unknown : goal.returns-clause-unknown
unfolding digits
returns-clause-unknown c = refl

pub returns-clause-twice : goal.returns-clause-twice
unfolding digits
returns-clause-twice c = refl

pub returns-clause-shipped : goal.returns-clause-shipped
unfolding digits
returns-clause-shipped c = refl

pub returns-clause-stray : goal.returns-clause-stray
unfolding digits
returns-clause-stray c = refl
