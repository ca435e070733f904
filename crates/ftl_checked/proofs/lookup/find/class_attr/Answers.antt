use Rattle.std.proofs.Common.{arith}
use Rattle.std.proofs.lemmas.Grind.{common_steps}
use Rattle.ftl_checked.proofs.lookup.Finding.{class_found_first, class_found_then}
use Rattle.ftl_checked.proofs.lookup.find.class_attr.Goals as goal

pub returns-in-Some : goal.returns-in-Some
returns-in-Some c = record { found = class_found_first c.args.grammar.now c.args.number c.args.name.now c.in-Some.found (grind (arith, common_steps)) }

pub returns-in-None : goal.returns-in-None
returns-in-None c =
    let found = class_found_then c.args.grammar.now c.args.number c.args.name.now (grind (arith, common_steps)) in
    grind (arith, common_steps)
