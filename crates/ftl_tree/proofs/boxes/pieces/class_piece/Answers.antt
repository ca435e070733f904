use Rattle.std.proofs.Common.{ap, arith, length}
use Rattle.std.proofs.lemmas.Grind.{common_steps}
use Rattle.ftl_tree.specs.boxes.Shows.{node_class}
use Rattle.ftl_tree.proofs.boxes.PieceTables.{class_piece_is, length-class_pieces}
use Rattle.ftl_tree.proofs.boxes.Lines.{class_within}
use Rattle.ftl_tree.proofs.boxes.pieces.class_piece.Goals as goal

pub bounds-as_slice-row : goal.bounds-as_slice-row
bounds-as_slice-row c =
    let known = class_within c.args.tree.now c.args.node c.row.ensures.is_tree c.requires.node in
    let long = length-class_pieces c.args.tree.now.checked.grammar in
    let same = ap length c.requires.pieces.classes in
    grind (arith, common_steps)

pub returns : goal.returns
returns c =
    let t = c.args.tree.now in
    let known = class_within t c.args.node c.row.ensures.is_tree c.requires.node in
    let same = c.requires.pieces.classes in
    let is = class_piece_is t.checked.grammar (node_class t c.args.node) c.index-as_slice-row.result known in
    grind (arith, common_steps)
