use Rattle.std.proofs.Common.{subst}
use Rattle.ftl_deps.specs.reads.Meant.{meant}
use Rattle.ftl_meaning.specs.faults.Checked.{CheckedGrammar}
use Rattle.ftl_noncircular.specs.grammars.Noncircular.{IsNoncircular}
use Rattle.ftl_noncircular.proofs.search.found.Noncircular.checked.Goals as goal

pub returns-clause-noncircular : goal.returns-clause-noncircular
returns-clause-noncircular c = subst (λ (x : CheckedGrammar). IsNoncircular (meant x)) c.self.view_is c.self.invariant
