use Rattle.std.proofs.Common.{take}
use Rattle.ftl_tree.proofs.boxes.Pairs.{pair_at, two_behind}
use Rattle.ftl_tree.proofs.boxes.digits.put_pair.Goals as goal

pub returns-clause-text : goal.returns-clause-text
returns-clause-text c =
    let p = pair_at c.args.number c.requires.short in
    two_behind (take c.args.end c.args.bytes.now) _ _ _ _ _ _ p.0 p.1 c.put_byte-end.ensures.text
    c.put_byte.ensures.text
