-- What held numbers say of the values.
use Rattle.std.proofs.Common.{◌≡◌, ℤ, arith}
use Rattle.std.proofs.lemmas.Int.{ints}
use Rattle.std.specs.Int.{int_max}
use Rattle.ftl_model.specs.layout.Values.{value_of, greatest_of, wide}
use Rattle.ftl_base.specs.Held.{IsHeld}

-- the greater of two held numbers holds the greatest of the two values
pub value_of-max : (m n : ℤ) → IsHeld m → IsHeld n →
    value_of wide (int_max m n) ≡ greatest_of (value_of wide m) (value_of wide n)
value_of-max m n h k = grind (arith, ints)
