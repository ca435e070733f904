use Rattle.std.proofs.Common.{◌≡◌, vec_len}
use Rattle.std.specs.List.{All}
use Rattle.ftl_steal.specs.Dealing.{HasFreeBelow, puts_of}
use Rattle.ftl_steal.proofs.Rounds.{AreDealtBelow}
use Rattle.ftl_steal.proofs.dealing.deal.Given as goal

abbrev pub invariant-loop-item : goal.invariant-loop-item
invariant-loop-item g l = record {
  count : vec_len l.holds ≡ vec_len l.fn.holds;
  free : All (HasFreeBelow (g.W.Meant.meaning l.work) l.pool l.item) l.holds.items;
  turn : AreDealtBelow (g.W.Meant.meaning l.work) l.item l.worker (puts_of l.holds.items);
}
