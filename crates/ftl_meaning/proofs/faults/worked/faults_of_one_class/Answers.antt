use Rattle.std.proofs.Common.{refl}
use Rattle.ftl_meaning.proofs.faults.WorkedFormulas.{of-num, of-reading, of-adding, of-so_far, of-last_or, of-stacked, of-widest}
use Rattle.ftl_meaning.proofs.faults.worked.faults_of_one_class.Goals as goal

pub returns-clause-right : goal.returns-clause-right
returns-clause-right c =
    simp (of-num, of-reading, of-adding, of-so_far, of-last_or, of-stacked, of-widest) refl

pub returns-clause-twice : goal.returns-clause-twice
returns-clause-twice c =
    simp (of-num, of-reading, of-adding, of-so_far, of-last_or, of-stacked, of-widest) refl

pub returns-clause-target : goal.returns-clause-target
returns-clause-target c =
    simp (of-num, of-reading, of-adding, of-so_far, of-last_or, of-stacked, of-widest) refl

pub returns-clause-accumulator : goal.returns-clause-accumulator
returns-clause-accumulator c =
    simp (of-num, of-reading, of-adding, of-so_far, of-last_or, of-stacked, of-widest) refl

pub returns-clause-read_before_target : goal.returns-clause-read_before_target
returns-clause-read_before_target c =
    simp (of-num, of-reading, of-adding, of-so_far, of-last_or, of-stacked, of-widest) refl

pub returns-clause-form_before_twice : goal.returns-clause-form_before_twice
returns-clause-form_before_twice c =
    simp (of-num, of-reading, of-adding, of-so_far, of-last_or, of-stacked, of-widest) refl
