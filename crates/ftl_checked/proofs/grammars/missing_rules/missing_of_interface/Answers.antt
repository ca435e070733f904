use Rattle.std.proofs.Common.{arith}
use Rattle.std.proofs.lemmas.Grind.{common_steps}
use Rattle.ftl_checked.proofs.lookup.Finding.{shared_small}
use Rattle.ftl_checked.proofs.grammars.missing_rules.missing_of_interface.Goals as goal

pub missing_in-requires-clause-small : goal.missing_in-requires-clause-small
missing_in-requires-clause-small c =
    let small = shared_small c.args.grammar.now c.args.place c.requires.small (grind (arith, common_steps)) in
    grind (arith, common_steps)
