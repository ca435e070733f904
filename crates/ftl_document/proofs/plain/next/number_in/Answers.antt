use Rattle.std.proofs.Common.{◌≡◌, ◌<◌, ◌+◌, List, ℕ, min, true, take, get_or, length, sym, ap, ◌∙◌, arith}
use Rattle.std.proofs.lemmas.Bool.{and_parts}
use Rattle.std.proofs.lemmas.List.Sums.{prefix_len-drop_yes}
use Rattle.std.specs.Str.Parse.{digits_value}
use Rattle.ftl_tokens.specs.declared.scanner.run.Run.TheVariants.{Digits}
use Rattle.ftl_tokens.specs.scanner.Run.{byte_goes_on}
use Rattle.ftl_tokens.proofs.scanner.NumberLemmas.{digits_value-cut}
use Rattle.ftl_document.proofs.plain.next.number_in.Goals as goal

pub too_large-requires-clause-large : goal.too_large-requires-clause-large
too_large-requires-clause-large c =
    let bytes = c.as_bytes-byte-items.result.now in
    let digit : byte_goes_on Digits (get_or bytes c.loop-at.at 0) ≡ true = sym c.is_digit.ensures.digit ∙ c.if-not-is_digit.false in
    let number : c.min-number.result ≡ min (digits_value 10 (take (c.loop-at.at + 1) c.args.text.now)) (c.args.greatest + 1) =
    c.min-number.ensures
    ∙ digits_value-cut c.args.text.now bytes c.loop-at.at c.loop-at.number c.from.result (c.args.greatest + 1)
    c.as_bytes-byte-items.ensures.value c.loop-at-test.true (and_parts _ _ digit).1 c.from.ensures (omega arith) c.loop-at.invariant.number in
    omega (arith, number, c.if-greatest-number.true)

pub loop-at-preserved : goal.loop-at-preserved
loop-at-preserved c =
    let bytes = c.as_bytes-byte-items.result.now in
    let same = c.as_bytes-byte-items.ensures.value in
    let text = c.args.text.now in
    let at = c.loop-at.at in
    let digit : byte_goes_on Digits (get_or bytes at 0) ≡ true = sym c.is_digit.ensures.digit ∙ c.if-not-is_digit.false in
    let digit_text : byte_goes_on Digits (get_or text at 0) ≡ true = ap (λ (l : List ℕ). byte_goes_on Digits (get_or l at 0)) (sym same) ∙ digit in
    let within : at < length text = omega (arith, c.loop-at-test.true, ap length same) in
    record {
      run = omega (arith, c.loop-at.invariant.run, prefix_len-drop_yes (byte_goes_on Digits) text at 0 within digit_text);
      number =
          c.min-number.ensures
          ∙ digits_value-cut text bytes at c.loop-at.number c.from.result (c.args.greatest + 1) same c.loop-at-test.true (and_parts _ _ digit).1
          c.from.ensures (omega arith) c.loop-at.invariant.number;
    }
