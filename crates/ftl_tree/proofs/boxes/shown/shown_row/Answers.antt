use Rattle.std.proofs.Common.{arith}
use Rattle.std.proofs.lemmas.Grind.{common_steps}
use Rattle.ftl_tree.proofs.boxes.ShownAmong.{shown_all, shown_step}
use Rattle.ftl_tree.proofs.boxes.shown.shown_row.Goals as goal

pub loop-attr-preserved : goal.loop-attr-preserved
loop-attr-preserved c =
    let step = shown_step c.args.checked.now.grammar c.args.interface c.args.first c.args.end c.loop-attr.attr
    c.loop-attr.row c.requires.within
    c.requires.first c.requires.end (grind (arith, common_steps)) (grind (arith, common_steps)) c.loop-attr.invariant in
    grind (arith, common_steps)

pub returns : goal.returns
returns c =
    let all = shown_all c.args.checked.now.grammar c.args.interface c.args.first c.args.end c.requires.within
    c.requires.first c.requires.end in
    grind (arith, common_steps)
