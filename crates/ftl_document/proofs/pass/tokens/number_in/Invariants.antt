use Rattle.std.proofs.Common.{◌≡◌, ◌+◌, min, drop, take}
use Rattle.std.specs.List.{prefix_len}
use Rattle.std.specs.Str.Parse.{digits_value}
use Rattle.ftl_tokens.specs.declared.scanner.run.Run.TheVariants.{Digits}
use Rattle.ftl_tokens.specs.scanner.Run.{byte_goes_on}
use Rattle.ftl_document.proofs.pass.tokens.number_in.Given as goal

abbrev pub invariant-loop-at : goal.invariant-loop-at
invariant-loop-at l = record {
  run : prefix_len (byte_goes_on Digits) l.digits ≡ l.at + prefix_len (byte_goes_on Digits) (drop l.at l.digits);
  number : l.number ≡ min (digits_value 10 (take l.at l.digits)) (l.greatest + 1);
}
