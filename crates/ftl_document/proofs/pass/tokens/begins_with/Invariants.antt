use Rattle.std.proofs.Common.{◌≡◌, take}
use Rattle.ftl_document.proofs.pass.tokens.begins_with.Given as goal

abbrev pub invariant-loop-at : goal.invariant-loop-at
invariant-loop-at l = take l.at l.bytes ≡ take l.at l.front
