-- The words of numbers, for tests.
use Rattle.std.specs.Prelude.{ℕ, pos}
use Rattle.ftl_model.specs.layout.Values.{number, word_of_value}

abbrev pub word : ℕ → ℕ
word n = word_of_value (number (pos n))
