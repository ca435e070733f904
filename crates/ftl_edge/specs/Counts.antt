-- Counts of 64 bits that only rise: of faults, of bytes, of calls.
use Rattle.std.specs.Prelude.{◌≡◌, ℕ, ◌+◌, ◌-◌, ◌^◌, ◌≤◌, min, Result, Ok, Err}

-- the count after it rose by n; it stands still at its type's end
abbrev pub raised : ℕ → ℕ → ℕ
raised before n = min (before + n) (2 ^ 64 - 1)

-- the count rose; once it is at its type's end, it stands there
abbrev pub Rose : ℕ → ℕ → Type 0
Rose before now = raised before 1 ≤ now

-- the count rose by n; from its type's end on it may have stood still
abbrev pub RoseBy : ℕ → ℕ → ℕ → Type 0
RoseBy n before now = (raised before n ≤ now) × (now ≤ before + n)

-- the count rose by the number in an Ok, and stayed at an Err
abbrev pub RisesByOk : {E : Type 0} → ℕ → ℕ → Result ℕ E → Type 0
RisesByOk before now (Ok n) = now ≡ raised before n
RisesByOk before now (Err _) = now ≡ before

-- the counts of a source: how often it was called, how many bytes were taken, and how often it failed
pub record SourceCounts : Type 0 where
  pub calls : ℕ
  pub taken : ℕ
  pub fault_count : ℕ

-- a source that was called so often, of which so many bytes were taken, and which failed so often
abbrev pub source_counts : (calls taken fault_count : ℕ) → SourceCounts
source_counts calls taken fault_count = record { calls = calls; taken = taken; fault_count = fault_count }
