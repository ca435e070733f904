use Rattle.std.proofs.Common.{arith}
use Rattle.std.proofs.lemmas.Grind.{common_steps}
use Rattle.ftl_checked.proofs.declarations.NameLists.{known_is}
use Rattle.ftl_checked.proofs.declarations.names.is_interface.Goals as goal

pub returns : goal.returns
returns c = let known = known_is c.args.grammar.now c.args.name.now in grind (arith, common_steps)
