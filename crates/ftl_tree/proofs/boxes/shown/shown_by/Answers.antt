use Rattle.std.proofs.Common.{arith}
use Rattle.std.proofs.lemmas.Grind.{common_steps}
use Rattle.ftl_tree.proofs.boxes.ShownAmong.{length-rows, row_is}
use Rattle.ftl_tree.proofs.boxes.shown.shown_by.Goals as goal

pub bounds-as_slice-interface_at : goal.bounds-as_slice-interface_at
bounds-as_slice-interface_at c =
    let known = c.interface_at.ensures.known in
    let long = length-rows c.args.tree.now.checked.grammar in
    grind (arith, common_steps)

pub returns : goal.returns
returns c =
    let g = c.args.tree.now.checked.grammar in
    let is = row_is g c.interface_at.result c.index-as_slice-interface_at.result c.interface_at.ensures.known in
    grind (arith, common_steps)
