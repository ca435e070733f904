-- The numbers of a sample, from a linear congruential generator.
use Rattle.std.specs.Prelude.{ℕ, zero, suc, ◌+◌, ◌*◌, ◌/◌, ◌%◌}

-- the state of the generator after this one
abbrev pub next_state : ℕ → ℕ
next_state r = (1103515245 * r + 12345) % 2147483648

-- the number below m that is drawn where the generator has moved to this state
abbrev pub drawn : ℕ → ℕ → ℕ
drawn m r = (r / 65536) % m

-- the state of a sample of n pieces after this many draws
abbrev pub state : ℕ → ℕ → ℕ
state n zero = n
state n (suc k) = next_state (state n k)

-- the width of piece i of n, which is drawn before its height
abbrev pub piece_width : ℕ → ℕ → ℕ
piece_width n i = 10 + drawn 40 (state n (2 * i + 1))

-- the height of piece i of n
abbrev pub piece_height : ℕ → ℕ → ℕ
piece_height n i = 8 + drawn 9 (state n (2 * i + 2))
