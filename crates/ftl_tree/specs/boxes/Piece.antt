-- How a piece of text is held.
use Rattle.std.specs.Prelude.{◌≡◌, ◌≤◌, ℕ, List, length, take}
use Rattle.ftl_tree.specs.boxes.PieceRoom.{field_room}
use Rattle.ftl_tree.specs.declared.boxes.piece.Piece.TheInside.{Inside}

-- a short text stands among the bytes that are copied at once
pub record IsPiece (p : Inside) : Type 0 where
  pub held : length p.short ≡ 16
  pub short : length p.text ≤ 16 → take (length p.text) p.short ≡ p.text
  pub room : p.room ≡ field_room p.text

abbrev pub text_of : Inside → List ℕ
text_of p = p.text
