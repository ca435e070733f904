use Rattle.std.proofs.Common.{arith}
use Rattle.std.proofs.lemmas.Grind.{common_steps}
use Rattle.ftl_checked.proofs.declarations.NameLists.{class_interface_within, shared_once, class_once_by}
use Rattle.ftl_checked.proofs.declarations.names.class_once.Goals as goal

pub interface_table-requires-clause-within : goal.interface_table-requires-clause-within
interface_table-requires-clause-within c =
    let within = class_interface_within c.args.grammar.now c.args.number c.requires.known c.requires.within in
    grind (arith, common_steps)

pub fields_once-requires-clause-shared : goal.fields_once-requires-clause-shared
fields_once-requires-clause-shared c =
    let within = class_interface_within c.args.grammar.now c.args.number c.requires.known c.requires.within in
    let once = shared_once c.args.grammar.now _ c.requires.once within in
    grind (arith, common_steps)

pub returns : goal.returns
returns c =
    let by = class_once_by c.args.grammar.now c.args.number in
    grind (arith, common_steps)
