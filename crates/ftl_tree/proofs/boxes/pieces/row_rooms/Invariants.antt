use Rattle.std.proofs.Common.{◌≡◌, map, take}
use Rattle.ftl_tree.specs.boxes.LinePieces.{row_room}
use Rattle.ftl_tree.proofs.boxes.pieces.row_rooms.Given as goal

-- the rooms of those so far
abbrev pub invariant-loop-row : goal.invariant-loop-row
invariant-loop-row l = l.rooms ≡ map (row_room l.attributes) (take l.row-index l.shown)
