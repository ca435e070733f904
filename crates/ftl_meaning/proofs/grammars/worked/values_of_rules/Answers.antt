use Rattle.std.proofs.Common.{refl}
use Rattle.ftl_meaning.proofs.faults.WorkedFormulas.{of-reading, of-adding, of-so_far, of-last_or, of-adding_three}
use Rattle.ftl_meaning.proofs.grammars.worked.values_of_rules.Goals as goal

pub returns-clause-fold : goal.returns-clause-fold
returns-clause-fold c = simp (of-reading, of-so_far, of-last_or, of-adding_three) refl

pub returns-clause-fold_from_the_default : goal.returns-clause-fold_from_the_default
returns-clause-fold_from_the_default c = simp (of-reading, of-so_far, of-last_or, of-adding_three) refl

pub returns-clause-fold_over_none : goal.returns-clause-fold_over_none
returns-clause-fold_over_none c = simp (of-last_or) refl

pub returns-clause-own : goal.returns-clause-own
returns-clause-own c = simp (of-reading) refl

pub returns-clause-last : goal.returns-clause-last
returns-clause-last c = simp (of-last_or) refl

pub returns-clause-first : goal.returns-clause-first
returns-clause-first c = simp (of-reading) refl

pub returns-clause-later : goal.returns-clause-later
returns-clause-later c = simp (of-adding) refl

pub returns-clause-each : goal.returns-clause-each
returns-clause-each c = simp (of-reading) refl
