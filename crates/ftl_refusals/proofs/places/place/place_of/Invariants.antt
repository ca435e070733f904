use Rattle.std.proofs.Common.{◌≡◌, take}
use Rattle.ftl_refusals.specs.places.Places.{place_behind}
use Rattle.ftl_refusals.proofs.places.place.place_of.Given as goal

abbrev pub invariant-loop-b : goal.invariant-loop-b
invariant-loop-b l = l.place ≡ place_behind (take l.b-index l.before)
