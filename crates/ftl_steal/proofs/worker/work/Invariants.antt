use Rattle.std.proofs.Common.{◌≡◌}
use Rattle.ftl_cells.specs.shared.State.{live}
use Rattle.ftl_cells.specs.declared.shared.place.HandPlace.TheVariants.{Idle}
use Rattle.ftl_steal.specs.Workers.{IsMember}
use Rattle.ftl_steal.proofs.worker.work.Given as goal

abbrev pub invariant-loop : goal.invariant-loop
invariant-loop g l = record {
  can : (goal.iterator-loop g).can_next l.iterator';
  finite : (goal.iterator-loop g).is_finite l.iterator';
  is : IsMember (g.W.Meant.meaning l.cells.1) l.cells.0 l.pool l.member;
  idle : l.member.hand.state.place ≡ live Idle;
}
