use Rattle.std.proofs.Common.{◌≡◌, drop, map}
use Rattle.ftl_deps.specs.parts.RuleParts.{read_meant}
use Rattle.ftl_step_value.specs.neighbours.NeighbourParts.{neighbour_list}
use Rattle.ftl_step_value.proofs.neighbours.NeighbourLists.{after}
use Rattle.ftl_step_value.proofs.neighbours.reads.neighbour_list.Given as goal

abbrev pub invariant-loop-read : goal.invariant-loop-read
invariant-loop-read l =
    after l.neighbours (neighbour_list l.places l.child l.later (map read_meant (drop l.read-index l.reads)))
    ≡ neighbour_list l.places l.child l.later (map read_meant l.reads)
