-- A sink in memory, and what its next call does.
use Rattle.std.specs.Prelude.{ℕ, ◌≡◌, ◌-◌, ◌^◌, ◌<◌, ◌⊎◌, List, length, take, ◌++◌, min, Contains, Result, Ok, Err}
use Rattle.ftl_edge.specs.Counts.{raised}

-- the bytes that were written, how many a call takes at most, the numbers of the calls that fail, and the counts
pub record SinkState : Type 0 where
  pub written : List ℕ
  pub chunk : ℕ
  pub failing : List ℕ
  pub calls : ℕ
  pub fault_count : ℕ

-- how many bytes there is still room for, of 1 MiB
abbrev pub room_left : SinkState → ℕ
room_left s = 2 ^ 20 - length s.written

-- the next call fails: by its number, or since there is no room left for any of the piece
abbrev pub Refuses : SinkState → List ℕ → Type 0
Refuses s piece = Contains s.failing s.calls ⊎ (room_left s ≡ 0 × 0 < length piece)

-- how many bytes a call that doesn't fail takes of a piece of this length
abbrev pub accepted : SinkState → ℕ → ℕ
accepted s piece = min piece (min s.chunk (room_left s))

-- the sink after a call with this piece and this answer
abbrev pub after_write : {E : Type 0} → SinkState → List ℕ → Result ℕ E → SinkState
after_write s piece (Ok n) = record s { written = s.written ++ take n piece; calls = raised s.calls 1 }
after_write s piece (Err _) = record s { calls = raised s.calls 1; fault_count = raised s.fault_count 1 }
