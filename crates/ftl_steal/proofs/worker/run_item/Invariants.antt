use Rattle.ftl_cells.specs.shared.State.{Sends}
use Rattle.ftl_steal.specs.Workers.{IsMember}
use Rattle.ftl_steal.proofs.worker.run_item.Given as goal

abbrev pub invariant-loop-sent : goal.invariant-loop-sent
invariant-loop-sent g l = record {
  is : IsMember (g.W.Meant.meaning l.cells.1) l.cells.0 l.pool l.member;
  at : Sends l.member.hand.state.place l.item l.sent;
}
