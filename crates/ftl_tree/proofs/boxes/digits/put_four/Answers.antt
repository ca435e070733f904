use Rattle.std.proofs.Common.{take, arith}
use Rattle.ftl_tree.proofs.boxes.Pairs.{pair_behind}
use Rattle.ftl_tree.proofs.boxes.digits.put_four.Goals as goal

pub returns-clause-text : goal.returns-clause-text
returns-clause-text c =
    pair_behind (take c.args.end c.args.bytes.now) _ _ c.args.number c.if-number-lt100.false
    (omega (arith, c.requires.short)) c.put_two-end.ensures.text c.put_pair.ensures.text
