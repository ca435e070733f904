-- The line and the column of a byte of a text.
use Rattle.std.specs.Prelude.{◌≡◌, ℕ, ◌+◌, ◌<◌, ◌≤◌, Bool, true, not, ◌==◌, ◌&&◌, ◌||◌, nat_lt, List, length, reverse, take}
use Rattle.std.specs.Prelude.{slice_index}
use Rattle.std.specs.List.{count_by, take_while, position_or_len, range_with_len}
use Rattle.ftl_refusals.specs.declared.places.place.Place.{Place}

-- a line feed (10) ends a line
abbrev pub ends_line : ℕ → Bool
ends_line b = b == 10

-- a character of UTF-8 begins with each byte but those from 128 to 191, which go on with one
abbrev pub begins_character : ℕ → Bool
begins_character b = nat_lt b 128 || nat_lt 191 b

-- the bytes behind the last line feed
abbrev pub last_line : List ℕ → List ℕ
last_line bytes = reverse (take_while (λ b. not (ends_line b)) (reverse bytes))

-- the line behind these bytes: one more than they have line feeds
abbrev pub line_behind : (before : List ℕ) → ℕ
line_behind before = 1 + count_by ends_line before

-- the column behind these bytes: one more than characters begin behind the last line feed
abbrev pub column_behind : (before : List ℕ) → ℕ
column_behind before = 1 + count_by begins_character (last_line before)

-- the place behind these bytes
abbrev pub place_behind : (before : List ℕ) → Place
place_behind before = record { line = line_behind before; column = column_behind before }

-- the place of a byte of a text
abbrev pub place_at : (text : List ℕ) → (byte : ℕ) → Place
place_at text byte = place_behind (take byte text)

-- a character begins at this byte of the text, or the text ends there
pub record BeginsCharacter (text : List ℕ) (byte : ℕ) : Type 0 where
  pub within : byte ≤ length text
  pub begins : byte < length text → begins_character (slice_index text byte) ≡ true

-- whether two places are one
abbrev pub is_same : Place → Place → Bool
is_same p q = p.line == q.line && p.column == q.column

-- the first byte of the text at which a character begins that has this place, or the end of the text
abbrev pub byte_at : (text : List ℕ) → Place → ℕ
byte_at text place =
    position_or_len (λ k. begins_character (slice_index text k) && is_same place (place_at text k))
    (range_with_len 0 (length text))
