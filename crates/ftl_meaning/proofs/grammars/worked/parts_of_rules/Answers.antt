use Rattle.std.proofs.Common.{refl}
use Rattle.ftl_meaning.proofs.faults.WorkedFormulas.{of-num, of-reading, of-adding, of-so_far, of-last_or, of-adding_three}
use Rattle.ftl_meaning.proofs.grammars.worked.parts_of_rules.Goals as goal

pub returns-clause-fold : goal.returns-clause-fold
returns-clause-fold c = simp (of-reading, of-so_far, of-last_or, of-adding_three) refl

pub returns-clause-own : goal.returns-clause-own
returns-clause-own c = simp (of-reading) refl

pub returns-clause-last : goal.returns-clause-last
returns-clause-last c = simp (of-last_or) refl

pub returns-clause-first_then : goal.returns-clause-first_then
returns-clause-first_then c = simp (of-reading, of-adding) refl

pub returns-clause-each : goal.returns-clause-each
returns-clause-each c = simp (of-reading) refl

pub returns-clause-chain : goal.returns-clause-chain
returns-clause-chain c = simp (of-num, of-adding) refl
