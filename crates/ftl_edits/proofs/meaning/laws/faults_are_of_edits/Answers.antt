use Rattle.std.proofs.Common.{subst}
use Rattle.ftl_edits.proofs.meaning.Faults.{IfErr, of_edits}
use Rattle.ftl_edits.proofs.meaning.laws.faults_are_of_edits.Goals as goal

pub returns-clause-memory : goal.returns-clause-memory
returns-clause-memory c = λ t written is. subst IfErr is (of_edits t written)

pub returns-clause-syntax : goal.returns-clause-syntax
returns-clause-syntax c = λ t written at is. subst IfErr is (of_edits t written)
