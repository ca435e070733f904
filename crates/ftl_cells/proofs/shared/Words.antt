-- The word of a value is not that of an empty cell.
use Rattle.std.proofs.Common.{◌≢◌, arith}
use Rattle.std.proofs.lemmas.Int.{ints}
use Rattle.std.specs.Prelude.{ℤ, pos, negsuc, ◌≤ℤ◌}
use Rattle.ftl_model.specs.layout.Values.{Value, number, overflow, wide, IsValue, word_of_value, word_of_number}

word_of_number_pos : (n : ℤ) → negsuc wide ≤ℤ n → word_of_number n ≢ 0
word_of_number_pos (pos n) low z = omega arith
word_of_number_pos (negsuc n) low z = omega (arith, ints)

pub word_of_value_pos : (v : Value) → IsValue v → word_of_value v ≢ 0
word_of_value_pos (number n) h = word_of_number_pos n h.0
word_of_value_pos overflow h = λ z. omega arith
