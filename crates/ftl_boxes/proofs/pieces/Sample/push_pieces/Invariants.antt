use Rattle.std.proofs.Common.{◌≡◌, ◌*◌, ◌++◌, string_bytes}
use Rattle.ftl_boxes.specs.Numbers.{state}
use Rattle.ftl_boxes.specs.Sample.{pieces_text}
use Rattle.ftl_boxes.proofs.pieces.Sample.push_pieces.Given as goal

-- the pieces so far
abbrev pub invariant-loop-piece : goal.invariant-loop-piece
invariant-loop-piece l =
    (string_bytes l.out ≡ string_bytes l.fn.out ++ pieces_text l.self.grammar l.self.size l.start l.piece)
    × (l.numbers.state ≡ state l.self.size (2 * l.piece))
