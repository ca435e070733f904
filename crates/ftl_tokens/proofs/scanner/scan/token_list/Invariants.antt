use Rattle.std.proofs.Common.{length}
use denote.Text.{Utf8}
use denote.Shadow.{shadow}
use Rattle.ftl_tokens.proofs.scanner.ScanLemmas.{HasRead}
use Rattle.ftl_tokens.proofs.scanner.scan.token_list.Given as goal

abbrev pub invariant-loop-rest : goal.invariant-loop-rest
invariant-loop-rest l = record {
  is_text : shadow (Utf8 l.rest);
  read : HasRead l.greatest l.text l.list.items l.at l.rest;
}

abbrev pub decreases-loop-rest : goal.decreases-loop-rest
decreases-loop-rest l = length l.rest
