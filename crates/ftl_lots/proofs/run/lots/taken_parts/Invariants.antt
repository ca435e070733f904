use Rattle.std.proofs.Common.{◌≡◌, vec_len}
use Rattle.ftl_lots.specs.table.Lots.{AreFilledFrom}
use Rattle.ftl_lots.proofs.run.lots.taken_parts.Given as goal

abbrev pub invariant-loop-lot : goal.invariant-loop-lot
invariant-loop-lot g l = record {
  count : vec_len l.parts ≡ l.lot;
  filled : AreFilledFrom l.lots.1 0 l.parts.items;
}
