use Rattle.std.proofs.Common.{◌≡◌, ◌+◌, min, drop, take}
use Rattle.std.specs.Char.{is_ascii_digit}
use Rattle.std.specs.Str.Parse.{digits_value}
use Rattle.ftl_tokens.proofs.scanner.RunLemmas.{RunsThrough}
use Rattle.ftl_tokens.proofs.scanner.piece.number_piece.Given as goal

abbrev pub invariant-loop-at : goal.invariant-loop-at
invariant-loop-at l = record {
  runs : RunsThrough is_ascii_digit l.text l.at (drop l.at l.text);
  number : l.number ≡ min (digits_value 10 (take l.at l.text)) (l.greatest + 1);
}
