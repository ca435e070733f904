use Rattle.std.proofs.Common.{ap, arith, length, [], get_or, ◌∙◌}
use Rattle.std.proofs.lemmas.Grind.{common_steps}
use Rattle.std.proofs.lemmas.List.{get_or_default}
use Rattle.ftl_meaning.specs.faults.Numbering.{interface_of}
use Rattle.ftl_tree.specs.boxes.Shows.{node_class}
use Rattle.ftl_tree.proofs.boxes.PieceTables.{attribute_piece_is, length-attribute_pieces}
use Rattle.ftl_tree.proofs.boxes.ShownAmong.{shown_at}
use Rattle.ftl_tree.proofs.boxes.pieces.attribute_piece.Goals as goal

pub bounds-as_slice-attr : goal.bounds-as_slice-attr
bounds-as_slice-attr c =
    let g = c.args.tree.now.checked.grammar in
    let at = (shown_at g (interface_of g (node_class c.args.tree.now c.args.node)) c.args.attr c.requires.attr).known in
    let long = length-attribute_pieces g in
    let same = ap length c.requires.pieces.attributes in
    grind (arith, common_steps)

pub returns-clause-piece : goal.returns-clause-piece
returns-clause-piece c =
    let g = c.args.tree.now.checked.grammar in
    let same = c.requires.pieces.attributes in
    let is = attribute_piece_is g (interface_of g (node_class c.args.tree.now c.args.node)) c.args.attr
    c.index-as_slice-attr.result c.requires.attr in
    grind (arith, common_steps)

pub returns-clause-at : goal.returns-clause-at
returns-clause-at c =
    let g = c.args.tree.now.checked.grammar in
    let at = (shown_at g (interface_of g (node_class c.args.tree.now c.args.node)) c.args.attr c.requires.attr).known in
    let long = length-attribute_pieces g in
    let same = c.requires.pieces.attributes in
    let piece = c.index-as_slice-attr.result in
    let held = c.as_slice.ensures in
    c.index-as_slice-attr.is
    ∙ ap (λ xs. get_or xs c.args.attr piece) held
    ∙ ap (λ xs. get_or xs c.args.attr piece) same
    ∙ get_or_default _ c.args.attr piece [] (omega (arith, at, long))
