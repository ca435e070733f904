use Rattle.std.proofs.Common.{ap}
use Rattle.ftl_meaning.specs.formulas.Formula.{reads_of}
use Rattle.ftl_meaning.proofs.formulas.WorkedFormulas.{widest_is, inner_is, breaks_is, offset_is, below_is}
use Rattle.ftl_meaning.proofs.formulas.worked.worked_formulas.Goals as goal

pub returns-clause-widest : goal.returns-clause-widest
returns-clause-widest c = widest_is

pub returns-clause-widest_reads : goal.returns-clause-widest_reads
returns-clause-widest_reads c = ap reads_of widest_is

pub returns-clause-inner : goal.returns-clause-inner
returns-clause-inner c = inner_is

pub returns-clause-breaks : goal.returns-clause-breaks
returns-clause-breaks c = breaks_is

pub returns-clause-breaks_reads : goal.returns-clause-breaks_reads
returns-clause-breaks_reads c = ap reads_of breaks_is

pub returns-clause-offset : goal.returns-clause-offset
returns-clause-offset c = offset_is

pub returns-clause-offset_reads : goal.returns-clause-offset_reads
returns-clause-offset_reads c = ap reads_of offset_is

pub returns-clause-below : goal.returns-clause-below
returns-clause-below c = below_is

pub returns-clause-below_reads : goal.returns-clause-below_reads
returns-clause-below_reads c = ap reads_of below_is
