-- What a numeral is.
use Rattle.std.proofs.Common.{◌≡◌, ℕ, ◌<◌, ◌≤◌, true, List, length, arith}
use Rattle.std.specs.Char.{is_ascii_digit}
use Rattle.std.specs.List.{list_all}
use Rattle.std.proofs.lemmas.Bool.Decides.{nat_tests}
use Rattle.ftl_page.specs.workers.Numerals.{is_numeral}

pub not_empty : (word : List ℕ) → is_numeral word ≡ true → 0 < length word
not_empty word h = grind (arith, nat_tests)

pub at_most_seven : (word : List ℕ) → is_numeral word ≡ true → length word ≤ 7
at_most_seven word h = grind (arith, nat_tests)

pub all_digits : (word : List ℕ) → is_numeral word ≡ true → list_all is_ascii_digit word ≡ true
all_digits word h = grind (arith, nat_tests)
