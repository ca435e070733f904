-- The machine's sum and difference of two values' numbers are exact.
use Rattle.std.proofs.Common.{◌≡◌, ℕ, ℤ, ◌+ℤ◌, ◌-ℤ◌, arith, ap, to_z, of_z, w64}
use Rattle.std.proofs.lemmas.Int.{ints}
use Rattle.ftl_model.specs.layout.Values.{Value, number, IsValue, value_of, sum_of, difference_of}

-- what a machine holds of a number
abbrev pub held : ℤ → ℤ
held n = to_z w64 (of_z w64 n)

pub value_of-sum : (g : ℕ) (a b : Value) (m n : ℤ) → a ≡ number m → b ≡ number n → IsValue a → IsValue b →
    value_of g (held (held m +ℤ held n)) ≡ sum_of g a b
value_of-sum g a b m n p q h k =
    let x : IsValue (number m) = rw p at h in
    let y : IsValue (number n) = rw q at k in
    let e : held (held m +ℤ held n) ≡ m +ℤ n = omega (arith, ints) in
    rw (p, q) (ap (value_of g) e)

pub value_of-difference : (g : ℕ) (a b : Value) (m n : ℤ) → a ≡ number m → b ≡ number n → IsValue a → IsValue b →
    value_of g (held (held m -ℤ held n)) ≡ difference_of g a b
value_of-difference g a b m n p q h k =
    let x : IsValue (number m) = rw p at h in
    let y : IsValue (number n) = rw q at k in
    let e : held (held m -ℤ held n) ≡ m -ℤ n = omega (arith, ints) in
    rw (p, q) (ap (value_of g) e)
