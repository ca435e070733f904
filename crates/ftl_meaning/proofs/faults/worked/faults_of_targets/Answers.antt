use Rattle.std.proofs.Common.{refl}
use Rattle.ftl_meaning.proofs.faults.WorkedFormulas.{of-num, of-reading, of-adding, of-so_far, of-last_or, of-stacked, of-widest, of-adding_three}
use Rattle.ftl_meaning.proofs.faults.worked.faults_of_targets.Goals as goal

pub returns-clause-no_child_rule : goal.returns-clause-no_child_rule
returns-clause-no_child_rule c =
    simp (of-num, of-reading, of-adding, of-so_far, of-last_or, of-stacked, of-widest, of-adding_three) refl

pub returns-clause-children_in_order : goal.returns-clause-children_in_order
returns-clause-children_in_order c =
    simp (of-num, of-reading, of-adding, of-so_far, of-last_or, of-stacked, of-widest, of-adding_three) refl

pub returns-clause-attributes_in_order : goal.returns-clause-attributes_in_order
returns-clause-attributes_in_order c =
    simp (of-num, of-reading, of-adding, of-so_far, of-last_or, of-stacked, of-widest, of-adding_three) refl

pub returns-clause-no_local_rule : goal.returns-clause-no_local_rule
returns-clause-no_local_rule c =
    simp (of-num, of-reading, of-adding, of-so_far, of-last_or, of-stacked, of-widest, of-adding_three) refl

pub returns-clause-kids_twice : goal.returns-clause-kids_twice
returns-clause-kids_twice c =
    simp (of-num, of-reading, of-adding, of-so_far, of-last_or, of-stacked, of-widest, of-adding_three) refl

pub returns-clause-twice_before_read : goal.returns-clause-twice_before_read
returns-clause-twice_before_read c =
    simp (of-num, of-reading, of-adding, of-so_far, of-last_or, of-stacked, of-widest, of-adding_three) refl

pub returns-clause-class_by_class : goal.returns-clause-class_by_class
returns-clause-class_by_class c =
    simp (of-num, of-reading, of-adding, of-so_far, of-last_or, of-stacked, of-widest, of-adding_three) refl

pub returns-clause-inherited_of_self : goal.returns-clause-inherited_of_self
returns-clause-inherited_of_self c =
    simp (of-num, of-reading, of-adding, of-so_far, of-last_or, of-stacked, of-widest, of-adding_three) refl

pub returns-clause-input_of_self : goal.returns-clause-input_of_self
returns-clause-input_of_self c =
    simp (of-num, of-reading, of-adding, of-so_far, of-last_or, of-stacked, of-widest, of-adding_three) refl

pub returns-clause-no_such_child : goal.returns-clause-no_such_child
returns-clause-no_such_child c =
    simp (of-num, of-reading, of-adding, of-so_far, of-last_or, of-stacked, of-widest, of-adding_three) refl

pub returns-clause-target_before_form : goal.returns-clause-target_before_form
returns-clause-target_before_form c =
    simp (of-num, of-reading, of-adding, of-so_far, of-last_or, of-stacked, of-widest, of-adding_three) refl
