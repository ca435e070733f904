use Rattle.std.proofs.Common.{arith}
use Rattle.std.proofs.lemmas.Grind.{common_steps}
use Rattle.ftl_tree.proofs.boxes.PieceTables.{piece_known}
use Rattle.ftl_tree.proofs.boxes.pieces.row_rooms.Goals as goal

pub row_room-requires : goal.row_room-requires
row_room-requires c = record {
  known = λ attr there.
      let known = piece_known c.args.checked.now.grammar c.loop-row.row-index attr c.row-item.result in
      let same = c.requires.attributes in
      let rows = c.requires.shown in
      grind (arith, common_steps);
}
