use Rattle.std.proofs.Common.{string_bytes}
use Rattle.ftl_answer.specs.answers.Texts.{grown_tree, planned_tree}
use Rattle.ftl_answer.proofs.reading.sections.Ways.{then_second}
use Rattle.ftl_answer.proofs.reading.sections.growing.tree_of.Goals as goal

pub returns-in-Ok-clause-outcome : goal.returns-in-Ok-clause-outcome
returns-in-Ok-clause-outcome c =
    let k = c.args.checked.now in
    then_second (grown_tree k (string_bytes c.args.text)) (planned_tree k c.args.accepted.now.schedule) (λ t. t.tree)
    c.in-Ok.tree.tree c.within_limits.result c.in-Ok.ensures.outcome c.within_limits.ensures.outcome
