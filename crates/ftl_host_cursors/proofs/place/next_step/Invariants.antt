use Rattle.ftl_host_cursors.specs.HostPlaces.{parts_left}
use Rattle.ftl_host_cursors.proofs.Turns.{IsAsFar}
use Rattle.ftl_host_cursors.proofs.place.next_step.Given as goal

abbrev pub invariant-search : goal.invariant-search
invariant-search l = IsAsFar l.tables l.initial.at l.at l.initial.steps l.steps

abbrev pub decreases-search : goal.decreases-search
decreases-search l = parts_left l.tables l.at
