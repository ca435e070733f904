use Rattle.std.proofs.Common.{◌≡◌, ◌+◌, true, get_or, refl, sym, ◌∙◌, arith}
use Rattle.std.proofs.lemmas.Bool.{and_parts}
use Rattle.std.proofs.lemmas.List.Sums.{prefix_len-drop_yes}
use Rattle.ftl_tokens.specs.declared.scanner.run.Run.TheVariants.{Digits}
use Rattle.ftl_tokens.specs.scanner.Run.{byte_goes_on}
use Rattle.ftl_tokens.proofs.scanner.NumberLemmas.{digits_value-cut}
use Rattle.ftl_document.proofs.pass.tokens.number_in.Goals as goal

pub loop-at-preserved : goal.loop-at-preserved
loop-at-preserved c =
    let text = c.args.digits.now in
    let at = c.loop-at.at in
    let digit : byte_goes_on Digits (get_or text at 0) ≡ true = sym c.is_digit.ensures.digit ∙ c.if-not-is_digit.false in
    record {
      run = omega (arith, c.loop-at.invariant.run, prefix_len-drop_yes (byte_goes_on Digits) text at 0 c.loop-at-test.true digit);
      number =
          c.min-number.ensures
          ∙ digits_value-cut text text at c.loop-at.number c.from.result (c.args.greatest + 1) refl c.loop-at-test.true (and_parts _ _ digit).1
          c.from.ensures (omega arith) c.loop-at.invariant.number;
    }
