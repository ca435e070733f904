use Rattle.std.proofs.Common.{arith}
use Rattle.std.proofs.lemmas.Grind.{common_steps}
use Rattle.ftl_document_printing.proofs.trees.WriterPlaces.{class_within}
use Rattle.ftl_document_printing.proofs.trees.print.child_count.Goals as goal

pub child_count-requires : goal.child_count-requires
child_count-requires c =
    let within = class_within c.args.tree.now c.tree_is_lawful.ensures.is_tree c.args.node c.requires.node in
    grind (arith, common_steps)
