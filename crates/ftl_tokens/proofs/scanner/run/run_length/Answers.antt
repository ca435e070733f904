use Rattle.std.proofs.Common.{◌+◌, ◌≤◌, length, drop, sym, ap, ◌∙◌, arith}
use Rattle.std.specs.List.{take_while, prefix_len}
use Rattle.std.specs.Str.{chars}
use Rattle.std.proofs.lemmas.Bool.{and_parts, ltb-true, lt-ltb}
use Rattle.std.proofs.lemmas.Str.{IsCharBoundary-from_drop}
use Rattle.ftl_tokens.specs.scanner.Run.{goes_on}
use Rattle.ftl_tokens.specs.scanner.Scan.{byte_length}
use Rattle.ftl_tokens.proofs.scanner.RunLemmas.{runs_through_byte, runs_through_byte_stop, runs_through_bytes_end}
use Rattle.ftl_tokens.proofs.scanner.KindLemmas.{and_second}
use Rattle.ftl_tokens.proofs.scanner.TextLemmas.{is_cut}
use Rattle.ftl_tokens.proofs.scanner.run.run_length.Goals as goal

-- what is left is a text
pub range_from-requires : goal.range_from-requires
range_from-requires c = λ _.
    IsCharBoundary-from_drop c.args.text.now c.loop-at.at
    (omega (arith, c.loop-at.invariant.left, c.loop-at-test.true, ap length c.as_bytes-byte-items.ensures.value))
    c.loop-at.invariant.utf8

pub overflow_add-result : goal.overflow_add-result
overflow_add-result c =
    let rest = drop c.loop-at.at c.args.text.now in
    let run = c.char_run_length.ensures.length ∙ ap (λ l. byte_length (take_while (goes_on c.args.run) (chars l))) c.range_from.ensures.value in
    let within : c.loop-at.at + c.char_run_length.result ≤ length c.args.text.now =
    omega (arith, run, c.loop-at.invariant.left, (is_cut rest (prefix_len (goes_on c.args.run) (chars rest)) c.loop-at.invariant.utf8).within) in
    omega (arith, ap length c.as_bytes-byte-items.ensures.value)

pub returns-then-not-byte_goes_on : goal.returns-then-not-byte_goes_on
returns-then-not-byte_goes_on c = record {
  length =
      omega (arith, c.loop-at.invariant.run, c.char_run_length.ensures.length, ap (λ l. byte_length (take_while (goes_on c.args.run) (chars l))) c.range_from.ensures.value);
}

-- the run stops before this byte
pub returns-then-byte-lt128 : goal.returns-then-byte-lt128
returns-then-byte-lt128 c = record {
  length =
      runs_through_byte_stop c.loop-at.invariant c.as_bytes-byte-items.result.now c.as_bytes-byte-items.ensures.value c.loop-at-test.true
      c.if-byte-lt128.true (and_second _ _ (lt-ltb _ 128 c.if-byte-lt128.true) (sym c.byte_goes_on.ensures.goes ∙ c.if-not-byte_goes_on.true));
}

pub loop-at-preserved : goal.loop-at-preserved
loop-at-preserved c =
    let parts = and_parts _ _ (sym c.byte_goes_on.ensures.goes ∙ c.if-not-byte_goes_on.false) in
    runs_through_byte c.loop-at.invariant c.as_bytes-byte-items.result.now c.as_bytes-byte-items.ensures.value c.loop-at-test.true
    (ltb-true _ 128 parts.0) parts.1

-- no byte is left
pub returns : goal.returns
returns c = record {
  length =
      runs_through_bytes_end c.loop-at.invariant c.as_bytes-byte-items.result.now c.as_bytes-byte-items.ensures.value c.loop-at-test.false;
}
