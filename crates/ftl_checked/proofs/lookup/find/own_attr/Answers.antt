use Rattle.std.proofs.Common.{arith}
use Rattle.std.proofs.lemmas.Grind.{common_steps}
use Rattle.ftl_checked.proofs.lookup.Finding.{own_small}
use Rattle.ftl_checked.proofs.lookup.find.own_attr.Goals as goal

pub attr_in-requires-clause-small : goal.attr_in-requires-clause-small
attr_in-requires-clause-small c =
    let small = own_small c.args.grammar.now c.args.number c.requires.small c.requires.within in
    grind (arith, common_steps)
