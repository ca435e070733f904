use Rattle.std.proofs.Common.{◌≡◌, ◌+◌, vec_len}
use Rattle.std.specs.List.{All}
use Rattle.ftl_cells.specs.shared.State.{live}
use Rattle.ftl_cells.specs.shared.Calls.{IsMadeBy}
use Rattle.ftl_cells.specs.declared.shared.place.HandPlace.TheVariants.{Ended}
use Rattle.ftl_steal.specs.Workers.{IsEndedMember, steps_made, step_total}
use Rattle.ftl_steal.proofs.stage.give_up_all.Given as goal

abbrev pub invariant-loop : goal.invariant-loop
invariant-loop g l = record {
  made : IsMadeBy (g.W.Meant.meaning l.cells.1) l.cells.0 l.kept;
  place : l.kept.state.place ≡ live Ended;
  left : vec_len l.members + l.counter ≡ l.end;
  all : steps_made l.kept.state + step_total l.members.items + vec_len l.members
      ≡ steps_made l.fn.hand.state + step_total l.fn.members.items + vec_len l.fn.members;
  ended : All (IsEndedMember (g.W.Meant.meaning l.cells.1) l.cells.0) l.members.items;
}
