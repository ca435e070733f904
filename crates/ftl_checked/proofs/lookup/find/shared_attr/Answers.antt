use Rattle.std.proofs.Common.{arith}
use Rattle.std.proofs.lemmas.Grind.{common_steps}
use Rattle.ftl_checked.proofs.lookup.Finding.{shared_small}
use Rattle.ftl_checked.proofs.lookup.find.shared_attr.Goals as goal

pub attr_in-requires-clause-small : goal.attr_in-requires-clause-small
attr_in-requires-clause-small c =
    let small = shared_small c.args.grammar.now c.args.number c.requires.small (grind (arith, common_steps)) in
    grind (arith, common_steps)
