use Rattle.std.proofs.Common.{refl}
use Rattle.ftl_meaning.proofs.faults.WorkedFormulas.{of-num, of-reading, of-adding, of-so_far, of-last_or, of-stacked, of-widest, of-adding_three}
use Rattle.ftl_meaning.proofs.faults.worked.grammars_without_a_fault.Goals as goal

pub returns-clause-stack : goal.returns-clause-stack
returns-clause-stack c =
    simp (of-num, of-reading, of-adding, of-so_far, of-last_or, of-stacked, of-widest, of-adding_three) refl

pub returns-clause-two : goal.returns-clause-two
returns-clause-two c =
    simp (of-num, of-reading, of-adding, of-so_far, of-last_or, of-stacked, of-widest, of-adding_three) refl

pub returns-clause-root_second : goal.returns-clause-root_second
returns-clause-root_second c =
    simp (of-num, of-reading, of-adding, of-so_far, of-last_or, of-stacked, of-widest, of-adding_three) refl
