use Rattle.std.proofs.Common.{refl}
use Rattle.ftl_meaning.proofs.faults.WorkedFormulas.{of-num, of-reading, of-adding, of-so_far, of-last_or, of-stacked, of-widest}
use Rattle.ftl_meaning.proofs.faults.worked.faults_of_one_child.Goals as goal

pub returns-clause-single : goal.returns-clause-single
returns-clause-single c =
    simp (of-num, of-reading, of-adding, of-so_far, of-last_or, of-stacked, of-widest) refl

pub returns-clause-list_as_single : goal.returns-clause-list_as_single
returns-clause-list_as_single c =
    simp (of-num, of-reading, of-adding, of-so_far, of-last_or, of-stacked, of-widest) refl

pub returns-clause-first_of_single : goal.returns-clause-first_of_single
returns-clause-first_of_single c =
    simp (of-num, of-reading, of-adding, of-so_far, of-last_or, of-stacked, of-widest) refl

pub returns-clause-fold_of_single : goal.returns-clause-fold_of_single
returns-clause-fold_of_single c =
    simp (of-num, of-reading, of-adding, of-so_far, of-last_or, of-stacked, of-widest) refl

pub returns-clause-folded : goal.returns-clause-folded
returns-clause-folded c =
    simp (of-num, of-reading, of-adding, of-so_far, of-last_or, of-stacked, of-widest) refl

pub returns-clause-this_in_from : goal.returns-clause-this_in_from
returns-clause-this_in_from c =
    simp (of-num, of-reading, of-adding, of-so_far, of-last_or, of-stacked, of-widest) refl

pub returns-clause-kids_synthesized : goal.returns-clause-kids_synthesized
returns-clause-kids_synthesized c =
    simp (of-num, of-reading, of-adding, of-so_far, of-last_or, of-stacked, of-widest) refl

pub returns-clause-kids_missing : goal.returns-clause-kids_missing
returns-clause-kids_missing c =
    simp (of-num, of-reading, of-adding, of-so_far, of-last_or, of-stacked, of-widest) refl

pub returns-clause-own_missing_first : goal.returns-clause-own_missing_first
returns-clause-own_missing_first c =
    simp (of-num, of-reading, of-adding, of-so_far, of-last_or, of-stacked, of-widest) refl

pub returns-clause-last_for_self : goal.returns-clause-last_for_self
returns-clause-last_for_self c =
    simp (of-num, of-reading, of-adding, of-so_far, of-last_or, of-stacked, of-widest) refl

pub returns-clause-last_for_kids : goal.returns-clause-last_for_kids
returns-clause-last_for_kids c =
    simp (of-num, of-reading, of-adding, of-so_far, of-last_or, of-stacked, of-widest) refl

pub returns-clause-last_of_single : goal.returns-clause-last_of_single
returns-clause-last_of_single c =
    simp (of-num, of-reading, of-adding, of-so_far, of-last_or, of-stacked, of-widest) refl

pub returns-clause-chain : goal.returns-clause-chain
returns-clause-chain c =
    simp (of-num, of-reading, of-adding, of-so_far, of-last_or, of-stacked, of-widest) refl

pub returns-clause-first_reads_prev : goal.returns-clause-first_reads_prev
returns-clause-first_reads_prev c =
    simp (of-num, of-reading, of-adding, of-so_far, of-last_or, of-stacked, of-widest) refl
