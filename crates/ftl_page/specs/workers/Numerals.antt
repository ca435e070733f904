-- The numbers that words write.
use Rattle.std.specs.Prelude.{ℕ, ◌&&◌, Bool, List, length, Option, Some, None, if◌then◌else◌, nat_le, nat_lt}
use Rattle.std.specs.Char.{is_ascii_digit}
use Rattle.std.specs.List.{list_all}
use Rattle.std.specs.Str.Parse.{digits_value}

-- one to seven ASCII digits
abbrev pub is_numeral : List ℕ → Bool
is_numeral word = nat_lt 0 (length word) && (nat_le (length word) 7 && list_all is_ascii_digit word)

-- a number from 1 to the greatest
abbrev pub is_from_one : (greatest n : ℕ) → Bool
is_from_one greatest n = nat_lt 0 n && nat_le n greatest

-- the number that the word writes, where it is from 1 to the greatest
abbrev pub number_of : (greatest : ℕ) → (word : List ℕ) → Option ℕ
number_of greatest word =
    if is_numeral word && is_from_one greatest (digits_value 10 word) then Some (digits_value 10 word) else None
