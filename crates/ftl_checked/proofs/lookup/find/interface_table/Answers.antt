use Rattle.std.proofs.Common.{arith, ◌≡◌, ◌+◌}
use Rattle.std.proofs.lemmas.Grind.{common_steps}
use Rattle.std.proofs.Common.{[]}
use Rattle.ftl_grammar.specs.syntax.Trees as trees
use Rattle.ftl_checked.specs.lookup.Tables.{interface_entry}
use Rattle.ftl_checked.proofs.lookup.Finding.{numbered_length, numbered_at}
use Rattle.ftl_checked.proofs.lookup.find.interface_table.Goals as goal

pub bounds-as_slice-interface : goal.bounds-as_slice-interface
bounds-as_slice-interface c =
    let counted = numbered_length (interface_entry c.args.grammar.now) 0 c.args.grammar.now.interfaces in
    grind (arith, common_steps)

pub returns : goal.returns
returns c =
    let here = numbered_at (interface_entry c.args.grammar.now) 0 c.args.grammar.now.interfaces c.args.interface c.index-as_slice-interface.result (trees.interface [] [] []) c.requires.within in
    let zeroed : 0 + c.args.interface ≡ c.args.interface = omega arith in
    grind (arith, common_steps)
