use Rattle.std.proofs.Common.{◌≡◌, ◌+◌, length, take, min, sym, ap, ◌∙◌, arith}
use Rattle.std.specs.Str.Parse.{digits_value}
use Rattle.ftl_tokens.proofs.scanner.NumberLemmas.{digits_value-cut, digit_ascii}
use Rattle.ftl_tokens.proofs.scanner.PieceLemmas.{number_piece_by}
use Rattle.ftl_tokens.proofs.scanner.RunLemmas.{runs_through_byte, runs_through_byte_other, runs_through_bytes_end}
use Rattle.ftl_tokens.proofs.scanner.piece.number_piece.Goals as goal

-- the number ends before this byte
pub returns-then-not-is_ascii_digit : goal.returns-then-not-is_ascii_digit
returns-then-not-is_ascii_digit c = record {
  piece =
      let bytes = c.as_bytes-byte-items.result.now in
      let stops = sym c.is_ascii_digit.ensures.value ∙ c.if-not-is_ascii_digit.true in
      number_piece_by c.args.greatest c.args.text.now c.loop-at.number c.loop-at.at c.number_token.result c.utf8.text c.requires.number
      (runs_through_byte_other c.loop-at.invariant.runs bytes c.as_bytes-byte-items.ensures.value digit_ascii c.loop-at-test.true stops)
      c.loop-at.invariant.number c.number_token.ensures.piece;
}

pub loop-at-preserved : goal.loop-at-preserved
loop-at-preserved c =
    let bytes = c.as_bytes-byte-items.result.now in
    let same = c.as_bytes-byte-items.ensures.value in
    let digit = sym c.is_ascii_digit.ensures.value ∙ c.if-not-is_ascii_digit.false in
    record {
      runs = runs_through_byte c.loop-at.invariant.runs bytes same c.loop-at-test.true (digit_ascii _ digit) digit;
      number =
          c.min-number.ensures
          ∙ digits_value-cut c.args.text.now bytes c.loop-at.at c.loop-at.number c.from.result (c.args.greatest + 1) same c.loop-at-test.true digit
          c.from.ensures (omega arith) c.loop-at.invariant.number;
    }

-- no byte is left
pub returns : goal.returns
returns c = record {
  piece =
      let bytes = c.as_bytes-byte-items.result.now in
      let same = c.as_bytes-byte-items.ensures.value in
      let end : c.loop-at.at ≡ length c.args.text.now = omega (arith, c.loop-at-test.false, c.loop-at.auto.at-end, ap length same) in
      number_piece_by c.args.greatest c.args.text.now c.loop-at.number (length c.args.text.now) c.number_token-2.result c.utf8.text c.requires.number
      (runs_through_bytes_end c.loop-at.invariant.runs bytes same c.loop-at-test.false)
      (c.loop-at.invariant.number ∙ ap (λ k. min (digits_value 10 (take k c.args.text.now)) (c.args.greatest + 1)) end)
      c.number_token-2.ensures.piece;
}
