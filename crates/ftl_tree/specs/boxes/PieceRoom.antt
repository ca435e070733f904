-- The room that a piece of text takes.
use Rattle.std.specs.Prelude.{ℕ, ◌+◌, List, length, max}

-- room for what is copied of a piece, sixteen bytes at least
abbrev pub piece_room : List ℕ → ℕ
piece_room text = max (length text) 16

-- and for a value beside it, of twenty bytes at most
abbrev pub field_room : List ℕ → ℕ
field_room text = piece_room text + 20
