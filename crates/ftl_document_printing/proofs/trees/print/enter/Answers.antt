use Rattle.std.proofs.Common.{◌≡◌, arith}
use Rattle.std.proofs.lemmas.Grind.{common_steps}
use Rattle.ftl_meaning.specs.faults.Numbering.{class_at}
use Rattle.ftl_document_printing.specs.trees.Left.{class_in, node_of}
use Rattle.ftl_document_printing.proofs.trees.WriterPlaces.{class_within}
use Rattle.ftl_document_printing.proofs.trees.Turns.{entering}
use Rattle.ftl_document_printing.proofs.trees.print.enter.Goals as goal

pub class_name-requires : goal.class_name-requires
class_name-requires c =
    let known = class_within c.args.tree.now c.tree_is_lawful.ensures.is_tree c.args.node c.requires.node in
    grind (arith, common_steps)

pub returns : goal.returns
returns c =
    let t = c.args.tree.now in
    let named : c.class_name.result.now ≡ (class_at t.checked.grammar (class_in t (node_of t c.args.node))).name =
    grind (arith, common_steps) in
    record {
      goes = entering t c.args.node c.class_name.result.now _ _ _ c.requires.node named
          c.in_ok-write_open.ensures.text c.in_ok-write_inputs.ensures.text;
    }
