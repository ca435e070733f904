-- How one machine number holds a value: a number of the wide range holds itself, and the one after the greatest of them
-- holds Overflow.
use Rattle.std.specs.Prelude.{◌+◌, ℤ, pos, negsuc, ◌≤ℤ◌}
use Rattle.ftl_model.specs.layout.Values.{Value, number, overflow, wide}

-- in the wide range, or the number after the greatest of it
abbrev pub IsHeld : ℤ → Type 0
IsHeld n = (negsuc wide ≤ℤ n) × (n ≤ℤ pos (wide + 1))

-- the number that holds a value
abbrev pub holder_of : Value → ℤ
holder_of (number n) = n
holder_of overflow = pos (wide + 1)
