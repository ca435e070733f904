use Rattle.std.proofs.Common.{take, arith}
use Rattle.ftl_tree.proofs.boxes.Pairs.{four_behind}
use Rattle.ftl_tree.proofs.boxes.digits.put_eight.Goals as goal

pub returns-clause-text : goal.returns-clause-text
returns-clause-text c =
    four_behind (take c.args.end c.args.bytes.now) _ _ _ c.args.number c.if-number-lt10000.false
    (omega (arith, c.requires.short)) c.put_four-end.ensures.text c.put_pair-end.ensures.text
    c.put_pair.ensures.text
