use Rattle.std.proofs.Common.{arith}
use Rattle.std.proofs.lemmas.Grind.{common_steps}
use Rattle.ftl_tree.proofs.boxes.ShownAmong.{end_within}
use Rattle.ftl_tree.proofs.boxes.shown.run_end.Goals as goal

pub overflow_cast-result : goal.overflow_cast-result
overflow_cast-result c =
    let within = end_within c.args.checked.now.grammar c.args.interface c.requires.within in
    let fits = c.attr_count.auto in
    grind (arith, common_steps)

pub overflow_add-result : goal.overflow_add-result
overflow_add-result c =
    let within = end_within c.args.checked.now.grammar c.args.interface c.requires.within in
    let fits = c.attr_count.auto in
    grind (arith, common_steps)
