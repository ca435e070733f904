-- The lines compute, digits included.
use Rattle.std.proofs.Common.{refl}
use Rattle.std.specs.Fmt.{digits}
use Rattle.ftl_answer.proofs.refusals.worked.lines_of_texts.Goals as goal

pub returns-clause-character : goal.returns-clause-character
unfolding digits
returns-clause-character c = refl

pub returns-clause-number : goal.returns-clause-number
unfolding digits
returns-clause-number c = refl

pub returns-clause-deep : goal.returns-clause-deep
unfolding digits
returns-clause-deep c = refl

pub returns-clause-syntax : goal.returns-clause-syntax
unfolding digits
returns-clause-syntax c = refl

pub returns-clause-schedule : goal.returns-clause-schedule
unfolding digits
returns-clause-schedule c = refl

pub returns-clause-passes : goal.returns-clause-passes
unfolding digits
returns-clause-passes c = refl

pub returns-clause-beside : goal.returns-clause-beside
unfolding digits
returns-clause-beside c = refl

pub returns-clause-host : goal.returns-clause-host
returns-clause-host c = refl

pub returns-clause-open_nest : goal.returns-clause-open_nest
returns-clause-open_nest c = refl

pub returns-clause-side : goal.returns-clause-side
returns-clause-side c = refl
