use Rattle.std.specs.Prelude.{◌≡◌, ◌++◌, drop}
use Rattle.ftl_cursors.specs.sequence.BlockPlaces.{places_from, places_in}
use Rattle.ftl_cursors.proofs.sequence.block_places.add_places.Given as goal

abbrev pub invariant-loop-place : goal.invariant-loop-place
invariant-loop-place l =
    l.places.items ++ places_from l.place l.begin (drop l.place l.visit) ≡ l.initial.places.items ++ places_in l.visit
