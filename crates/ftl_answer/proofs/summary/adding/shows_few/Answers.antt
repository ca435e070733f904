use Rattle.std.proofs.Common.{arith}
use Rattle.std.proofs.lemmas.Grind.{common_steps}
use Rattle.ftl_meaning.specs.faults.Numbering.{interface_of}
use Rattle.ftl_tree.specs.boxes.Shows.{node_class}
use Rattle.ftl_tree.proofs.boxes.Lines.{interface_within}
use Rattle.ftl_answer.proofs.summary.Few.{few_shown}
use Rattle.ftl_answer.proofs.summary.adding.shows_few.Goals as goal

pub returns : goal.returns
returns c =
    let t = c.args.tree.now in
    let known = interface_within t c.args.node c.row.ensures.is_tree c.requires.node (grind (arith, common_steps)) in
    let few = few_shown t.checked.grammar (interface_of t.checked.grammar (node_class t c.args.node)) known in
    let fits = c.attr_count.auto in
    grind (arith, common_steps)
