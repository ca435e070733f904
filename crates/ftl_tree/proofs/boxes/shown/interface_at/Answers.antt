use Rattle.std.proofs.Common.{arith}
use Rattle.std.proofs.lemmas.Grind.{common_steps}
use Rattle.ftl_tree.proofs.boxes.Lines.{class_within, interface_within}
use Rattle.ftl_tree.proofs.boxes.shown.interface_at.Goals as goal

pub interface_of-requires : goal.interface_of-requires
interface_of-requires c =
    let known = class_within c.args.tree.now c.args.node c.row.ensures.is_tree c.requires.node in
    grind (arith, common_steps)

pub returns-clause-known : goal.returns-clause-known
returns-clause-known c =
    let known = interface_within c.args.tree.now c.args.node c.row.ensures.is_tree c.requires.node
    (grind (arith, common_steps)) in
    grind (arith, common_steps)
