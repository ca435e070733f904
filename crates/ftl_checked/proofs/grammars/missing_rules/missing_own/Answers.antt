use Rattle.std.proofs.Common.{arith}
use Rattle.std.proofs.lemmas.Grind.{common_steps}
use Rattle.ftl_checked.proofs.lookup.Finding.{own_small}
use Rattle.ftl_checked.proofs.grammars.missing_rules.missing_own.Goals as goal

pub missing_in-requires-clause-small : goal.missing_in-requires-clause-small
missing_in-requires-clause-small c =
    let small = own_small c.args.grammar.now c.args.number c.requires.small c.requires.within in
    grind (arith, common_steps)
