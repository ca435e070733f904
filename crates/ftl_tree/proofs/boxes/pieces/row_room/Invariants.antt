use Rattle.std.proofs.Common.{◌≡◌, take}
use Rattle.ftl_tree.specs.boxes.LinePieces.{row_room}
use Rattle.ftl_tree.proofs.boxes.pieces.row_room.Given as goal

-- the room of those so far
abbrev pub invariant-loop-attr : goal.invariant-loop-attr
invariant-loop-attr l = l.room ≡ row_room l.attributes (take l.attr-index l.row)
