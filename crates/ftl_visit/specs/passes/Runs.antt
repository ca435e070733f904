-- Lists side by side in one, with the places where they begin.
use Rattle.std.specs.Prelude.{◌≡◌, ℕ, ◌+◌, ◌-◌, ◌<◌, ◌≤◌, List, length, map, slice_index_or, slice_range}
use Rattle.std.specs.List.{range_with_len}

-- the list of this number: from where it begins to where the next one does
abbrev pub run : {X : Type 0} → (starts : List ℕ) → List X → ℕ → List X
run starts xs n = slice_range xs (slice_index_or starts n 0) (slice_index_or starts (n + 1) 0)

-- all of them
abbrev pub runs : {X : Type 0} → (starts : List ℕ) → List X → List (List X)
runs starts xs = map (run starts xs) (range_with_len 0 (length starts - 1))

-- there is a first start, no start falls, and the last is the end
pub record IsCut {X : Type 0} (starts : List ℕ) (xs : List X) : Type 0 where
  pub some : 0 < length starts
  pub rising : (n : ℕ) → n + 1 < length starts → slice_index_or starts n 0 ≤ slice_index_or starts (n + 1) 0
  pub within : (n : ℕ) → n < length starts → slice_index_or starts n 0 ≤ length xs
  pub last : slice_index_or starts (length starts - 1) 0 ≡ length xs
