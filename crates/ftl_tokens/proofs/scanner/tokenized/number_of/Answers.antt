use Rattle.std.proofs.Common.{◌≡◌, Ok, refl, sym, subst, arith}
use Rattle.std.specs.Prelude.{IsOk}
use Rattle.std.specs.Str.Parse.{digits_value}
use Rattle.std.proofs.lemmas.Str.Parse.{parse_gives}
use Rattle.ftl_tokens.proofs.scanner.NumberLemmas.{numerals, is_number-length, is_number-digits}
use Rattle.ftl_tokens.proofs.scanner.tokenized.number_of.Goals as goal

-- the digits are few enough for 64 bits
pub unwrap-requires : goal.unwrap-requires
unwrap-requires c =
    let digits = c.args.digits.now in
    let parsed : c.parse.result ≡ Ok (digits_value 10 digits) = parse_gives numerals 64 digits c.parse.result c.parse.ensures.value.0 (is_number-digits digits c.requires.number) (is_number-length digits c.requires.number) (omega (arith, c.requires.small)) in
    subst IsOk (sym parsed) refl
