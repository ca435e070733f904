use Rattle.std.proofs.Common.{◌≡◌, map, take}
use Rattle.ftl_deps.specs.reads.Meant.{meant}
use Rattle.ftl_step_value.specs.neighbours.NeighbourParts.{neighbour_parts_named}
use Rattle.ftl_step_value.proofs.neighbours.parts.neighbour_parts.Given as goal

abbrev pub invariant-loop-rule : goal.invariant-loop-rule
invariant-loop-rule l = l.parts.items ≡ map (neighbour_parts_named l.places (meant l.checked)) (take l.rule (meant l.checked).rules)
