-- Numbers, as `parse` reads them.
use Rattle.std.proofs.Common.{◌≡◌, ℕ, ◌+◌, ◌-◌, ◌*◌, ◌<◌, ◌≤◌, min, true, List, [], ◌∷◌, length, get_or, take, sym}
use Rattle.std.proofs.Common.{ap, ◌∙◌, arith, rules}
use Rattle.std.specs.List.{list_all}
use Rattle.std.specs.Char.{is_ascii_digit, digit_value}
use Rattle.std.specs.Str.Parse.{digits_value}
use Rattle.std.proofs.lemmas.Bool.{false≢true}
use Rattle.std.proofs.lemmas.Bool.Decides.{nat_tests}
use Rattle.std.proofs.lemmas.Str.Parse.{IsNumeralModel, IsDigitsTest, numerals_by_value}
use Rattle.std.proofs.lemmas.Int.Digits.{digits_value_more}
use Rattle.std.proofs.lemmas.Str.{digit_value_digit}
use Rattle.ftl_tokens.specs.scanner.Kinds.{is_number}

tells_list_all : IsDigitsTest (λ ds. list_all is_ascii_digit ds ≡ true)
tells_list_all = search rules

pub numerals : IsNumeralModel (λ ds. list_all is_ascii_digit ds ≡ true) (digits_value 10)
numerals = numerals_by_value _ tells_list_all

pub is_number-length : (ds : List ℕ) → is_number ds ≡ true → 0 < length ds
is_number-length [] number = absurd (false≢true number)
is_number-length (d ∷ ds) number = omega arith

pub is_number-digits : (ds : List ℕ) → is_number ds ≡ true → list_all is_ascii_digit ds ≡ true
is_number-digits [] number = absurd (false≢true number)
is_number-digits (d ∷ ds) number = number

pub digit_ascii : (d : ℕ) → is_ascii_digit d ≡ true → d < 128
digit_ascii d digit = grind (arith, nat_tests)

digit_value-digit : (d : ℕ) → is_ascii_digit d ≡ true → digit_value d ≡ d - 48
digit_value-digit d digit =
    let range : (48 ≤ d) × (d ≤ 57) = (grind (arith, nat_tests), grind (arith, nat_tests)) in
    omega (arith, digit_value_digit d range)

-- the number of one digit more, cut at a limit
pub digits_value-cut : (text bytes : List ℕ) (at number digit limit : ℕ) → bytes ≡ text → at < length bytes
    → is_ascii_digit (get_or bytes at 0) ≡ true → digit ≡ get_or bytes at 0 - 48 → 0 < limit
    → number ≡ min (digits_value 10 (take at text)) limit
    → min (number * 10 + digit) limit ≡ min (digits_value 10 (take (at + 1) text)) limit
digits_value-cut text bytes at number digit limit same within is_digit digit_is some number_is =
    let within_text : at < length text = omega (arith, ap length same) in
    let is_digit_text : is_ascii_digit (get_or text at 0) ≡ true = ap (λ l. is_ascii_digit (get_or l at 0)) (sym same) ∙ is_digit in
    let more = digits_value_more 10 text at within_text in
    let value = digit_value-digit (get_or text at 0) is_digit_text in
    let digit_text = digit_is ∙ ap (λ (l : List ℕ). get_or l at 0 - 48) same in
    omega (arith, more, value, digit_text, number_is, some)
