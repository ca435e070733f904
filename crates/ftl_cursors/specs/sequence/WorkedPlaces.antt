-- The places of a block, typed by hand.
use Rattle.std.specs.Prelude.{ℕ}
use Rattle.ftl_cursors.specs.declared.sequence.block_places.BlockPlaces.{BlockPlaces}

-- a block that begins at one place, and whose kids are visited at the other
abbrev pub block : (begin visit : ℕ) → BlockPlaces
block b v = record { begin = b; visit = v }
