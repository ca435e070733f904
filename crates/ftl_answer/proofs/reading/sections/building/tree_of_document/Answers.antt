use Rattle.ftl_answer.specs.answers.Texts.{planned_tree}
use Rattle.ftl_answer.specs.reading.sections.WrittenTrees.{written_tree}
use Rattle.ftl_answer.proofs.reading.sections.Ways.{first_ends, then_second}
use Rattle.ftl_answer.proofs.reading.sections.building.tree_of_document.Goals as goal
use Rattle.ftl_tree.specs.trees.CheckedTree.{CheckedTree}

pub returns-in-Ok-clause-outcome : goal.returns-in-Ok-clause-outcome
returns-in-Ok-clause-outcome c node is =
    let k = c.args.checked.now in
    then_second (written_tree k node) (planned_tree k c.args.accepted.now.schedule) (λ t. t.tree) c.in-Ok.tree.tree
    c.within_limits.result (c.in-Ok.ensures.outcome node is) c.within_limits.ensures.outcome

pub returns-in-Err-clause-outcome : goal.returns-in-Err-clause-outcome
returns-in-Err-clause-outcome c node is =
    let k = c.args.checked.now in
    first_ends (written_tree k node) (planned_tree k c.args.accepted.now.schedule) (λ (t : CheckedTree). t.tree)
    (λ (t : CheckedTree). t.tree) c.in-Err.end (c.in-Err.ensures.outcome node is)
