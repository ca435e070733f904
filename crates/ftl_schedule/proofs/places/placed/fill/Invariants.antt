use Rattle.std.proofs.Common.{drop, length}
use Rattle.ftl_schedule.proofs.places.Filling.{IsFilled}
use Rattle.ftl_schedule.proofs.places.placed.fill.Given as goal

abbrev pub invariant-loop-entry : goal.invariant-loop-entry
invariant-loop-entry l = IsFilled l.entries (drop l.entry-index l.entries) (length l.initial.places) l.places
