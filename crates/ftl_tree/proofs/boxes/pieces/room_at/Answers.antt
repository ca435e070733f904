use Rattle.std.proofs.Common.{ap, arith, length}
use Rattle.std.proofs.lemmas.Grind.{common_steps}
use Rattle.ftl_tree.proofs.boxes.PieceTables.{length-row_rooms, row_room_is}
use Rattle.ftl_tree.proofs.boxes.pieces.room_at.Goals as goal

pub bounds-as_slice-interface_at : goal.bounds-as_slice-interface_at
bounds-as_slice-interface_at c =
    let known = c.interface_at.ensures.known in
    let long = length-row_rooms c.args.tree.now.checked.grammar in
    let same = ap length c.requires.pieces.rooms in
    grind (arith, common_steps)

pub returns-in-Some : goal.returns-in-Some
returns-in-Some c =
    let known = c.interface_at.ensures.known in
    let same = c.requires.pieces.rooms in
    let is = row_room_is c.args.tree.now.checked.grammar c.interface_at.result 0 known in
    grind (arith, common_steps)
