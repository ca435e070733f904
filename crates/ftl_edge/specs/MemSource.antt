-- A source in memory, and what its next call does.
use Rattle.std.specs.Prelude.{ℕ, List, length, drop, take, ◌++◌, min, Result, Ok, Err}
use Rattle.ftl_edge.specs.Counts.{raised}

-- the bytes that are left, how many a call gives at most, the numbers of the calls that fail, and the counts
pub record SourceState : Type 0 where
  pub left : List ℕ
  pub chunk : ℕ
  pub failing : List ℕ
  pub calls : ℕ
  pub taken : ℕ
  pub fault_count : ℕ

-- how many bytes a call that doesn't fail gives to a room of this length
abbrev pub given : SourceState → ℕ → ℕ
given s room = min (length s.left) (min s.chunk room)

-- the source after a call with this answer
abbrev pub after_read : {E : Type 0} → SourceState → Result ℕ E → SourceState
after_read s (Ok n) = record s { left = drop n s.left; calls = raised s.calls 1; taken = raised s.taken n }
after_read s (Err _) = record s { calls = raised s.calls 1; fault_count = raised s.fault_count 1 }

-- the room after a call with this answer
abbrev pub filled_room : {E : Type 0} → SourceState → List ℕ → Result ℕ E → List ℕ
filled_room s room (Ok n) = take n s.left ++ drop n room
filled_room s room (Err _) = room
