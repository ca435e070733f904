use Rattle.std.proofs.Common.{refl}
use Rattle.ftl_meaning.proofs.faults.WorkedFormulas.{of-num, of-reading, of-adding, of-so_far, of-last_or, of-stacked, of-widest, of-adding_three}
use Rattle.ftl_meaning.proofs.faults.worked.bad_reads.Goals as goal

pub returns-clause-step_reads_prev : goal.returns-clause-step_reads_prev
returns-clause-step_reads_prev c =
    simp (of-num, of-reading, of-adding, of-so_far, of-last_or, of-stacked, of-widest, of-adding_three) refl

pub returns-clause-start_before_step : goal.returns-clause-start_before_step
returns-clause-start_before_step c =
    simp (of-num, of-reading, of-adding, of-so_far, of-last_or, of-stacked, of-widest, of-adding_three) refl

pub returns-clause-first_before_then : goal.returns-clause-first_before_then
returns-clause-first_before_then c =
    simp (of-num, of-reading, of-adding, of-so_far, of-last_or, of-stacked, of-widest, of-adding_three) refl

pub returns-clause-left_before_right : goal.returns-clause-left_before_right
returns-clause-left_before_right c =
    simp (of-num, of-reading, of-adding, of-so_far, of-last_or, of-stacked, of-widest, of-adding_three) refl

pub returns-clause-this_for_single : goal.returns-clause-this_for_single
returns-clause-this_for_single c =
    simp (of-num, of-reading, of-adding, of-so_far, of-last_or, of-stacked, of-widest, of-adding_three) refl

pub returns-clause-prev_for_each : goal.returns-clause-prev_for_each
returns-clause-prev_for_each c =
    simp (of-num, of-reading, of-adding, of-so_far, of-last_or, of-stacked, of-widest, of-adding_three) refl

pub returns-clause-last_for_later : goal.returns-clause-last_for_later
returns-clause-last_for_later c =
    simp (of-num, of-reading, of-adding, of-so_far, of-last_or, of-stacked, of-widest, of-adding_three) refl

pub returns-clause-of_another_child : goal.returns-clause-of_another_child
returns-clause-of_another_child c =
    simp (of-num, of-reading, of-adding, of-so_far, of-last_or, of-stacked, of-widest, of-adding_three) refl

pub returns-clause-of_no_child : goal.returns-clause-of_no_child
returns-clause-of_no_child c =
    simp (of-num, of-reading, of-adding, of-so_far, of-last_or, of-stacked, of-widest, of-adding_three) refl
