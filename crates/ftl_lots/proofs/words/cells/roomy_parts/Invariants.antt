use Rattle.std.proofs.Common.{◌≡◌, vec_len}
use Rattle.ftl_lots.specs.words.Parts.{HaveRoom}
use Rattle.ftl_lots.proofs.words.cells.roomy_parts.Given as goal

abbrev pub invariant-loop-part : goal.invariant-loop-part
invariant-loop-part l = record {
  count : vec_len l.parts ≡ l._part;
  room : HaveRoom l.size l.parts.items;
}
