use Rattle.std.proofs.Common.{arith}
use Rattle.std.proofs.lemmas.Grind.{common_steps}
use Rattle.ftl_checked.proofs.lookup.Places.{clip_is}
use Rattle.ftl_checked.proofs.lookup.tables.interface_named.Goals as goal

pub returns : goal.returns
returns c =
    let named = clip_is c.args.grammar.now c.args.name.now c.args.names.now c.requires.names in
    grind (arith, common_steps)
