-- What a call leaves of the bytes that a sink was given.
use Rattle.std.specs.Prelude.{ℕ, ◌≤◌, Option, List, length, take}
use Rattle.std.specs.Io.KnownBytes.{Appends}

-- some number of these bytes, from the first on, was appended where the written bytes are told
abbrev pub AppendsFront : Option (List ℕ) → Option (List ℕ) → List ℕ → Type 0
AppendsFront old new bytes = (n : ℕ) × (n ≤ length bytes) × Appends old new (take n bytes)
