use Rattle.std.proofs.Common.{◌≡◌, Ok, refl, sym, subst, arith}
use Rattle.std.specs.Prelude.{IsOk}
use Rattle.std.specs.Str.Parse.{digits_value}
use Rattle.std.proofs.lemmas.Str.Parse.{digits_value_short, parse_gives}
use Rattle.ftl_tokens.proofs.scanner.NumberLemmas.{numerals}
use Rattle.ftl_page.proofs.workers.DigitLemmas.{all_digits, at_most_seven, not_empty}
use Rattle.ftl_page.proofs.workers.numerals.value.Goals as goal

-- seven digits fit 32 bits
pub unwrap-requires : goal.unwrap-requires
unwrap-requires c =
    let digits = c.args.digits.now in
    let all = all_digits digits c.requires.numeral in
    let few = digits_value_short numerals digits 7 all (at_most_seven digits c.requires.numeral) in
    let parsed : c.parse.result ≡ Ok (digits_value 10 digits) =
    parse_gives numerals 32 digits c.parse.result c.parse.ensures.value.0 all (not_empty digits c.requires.numeral) (omega (arith, few)) in
    subst IsOk (sym parsed) refl
