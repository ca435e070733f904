use Rattle.std.proofs.Common.{arith}
use Rattle.std.proofs.lemmas.Grind.{common_steps}
use Rattle.std.proofs.Common.{[], false}
use Rattle.ftl_grammar.specs.syntax.Trees as trees
use Rattle.ftl_meaning.specs.faults.Numbering.{class_at}
use Rattle.ftl_meaning.specs.faults.Checked.{child_info}
use Rattle.ftl_checked.proofs.lookup.Finding.{made_at}
use Rattle.ftl_checked.proofs.lookup.find.child_of.Goals as goal

pub returns : goal.returns
returns c =
    let here = made_at (child_info c.args.grammar.now) (class_at c.args.grammar.now c.args.number).children c.args.child
    (record { interface = 0; many = false }) (trees.child [] [] false) c.requires.child in
    grind (arith, common_steps)
