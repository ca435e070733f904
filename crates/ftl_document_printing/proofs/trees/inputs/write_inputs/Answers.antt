use Rattle.std.proofs.Common.{arith}
use Rattle.std.proofs.lemmas.Grind.{common_steps}
use Rattle.ftl_document_printing.specs.trees.Left.{class_in, node_of}
use Rattle.ftl_document_printing.proofs.trees.Attributes.{attributes_at, table_length}
use Rattle.ftl_document_printing.proofs.trees.WriterPlaces.{class_within}
use Rattle.ftl_document_printing.proofs.trees.inputs.write_inputs.Goals as goal

pub bounds-attrs-row : goal.bounds-attrs-row
bounds-attrs-row c =
    let t = c.args.tree.now in
    let known = class_within t c.tree_is_lawful.ensures.is_tree c.args.node c.requires.node in
    let long = table_length t c.args.attrs.now c.requires.attrs in
    grind (arith, common_steps)

pub write_attributes-requires-clause-attrs : goal.write_attributes-requires-clause-attrs
write_attributes-requires-clause-attrs c =
    let t = c.args.tree.now in
    let known = class_within t c.tree_is_lawful.ensures.is_tree c.args.node c.requires.node in
    let at = attributes_at t c.args.attrs.now (class_in t
    (node_of t c.args.node)) c.index-attrs-row.result c.requires.attrs known in
    grind (arith, common_steps)
