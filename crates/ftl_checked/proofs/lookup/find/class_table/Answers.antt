use Rattle.std.proofs.Common.{arith, ◌≡◌, ◌+◌}
use Rattle.std.proofs.lemmas.Grind.{common_steps}
use Rattle.std.proofs.Common.{[]}
use Rattle.ftl_grammar.specs.syntax.Trees as trees
use Rattle.ftl_checked.specs.lookup.Tables.{class_entry}
use Rattle.ftl_checked.proofs.lookup.Finding.{numbered_length, numbered_at}
use Rattle.ftl_checked.proofs.lookup.find.class_table.Goals as goal

pub bounds-as_slice-class : goal.bounds-as_slice-class
bounds-as_slice-class c =
    let counted = numbered_length (class_entry c.args.grammar.now) 0 c.args.grammar.now.classes in
    grind (arith, common_steps)

pub returns : goal.returns
returns c =
    let here = numbered_at (class_entry c.args.grammar.now) 0 c.args.grammar.now.classes c.args.class c.index-as_slice-class.result (trees.class [] [] [] [] []) c.requires.within in
    let zeroed : 0 + c.args.class ≡ c.args.class = omega arith in
    grind (arith, common_steps)
