use Rattle.std.proofs.Common.{get_or}
use Rattle.std.proofs.lemmas.List.Elements.{Contains-get_or}
use Rattle.ftl_answer.proofs.explanations.print.add_lines.Goals as goal

pub add_line-requires-clause-instance : goal.add_line-requires-clause-instance
add_line-requires-clause-instance c =
    let order = c.args.order.now in
    let k = c.loop-instance.instance-index in
    c.requires.order (get_or order k 0) (Contains-get_or order k 0 c.loop-instance-test.true)
