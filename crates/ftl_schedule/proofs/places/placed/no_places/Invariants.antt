use Rattle.std.proofs.Common.{◌≡◌, replicate, None}
use Rattle.ftl_schedule.proofs.places.placed.no_places.Given as goal

abbrev pub invariant-loop-attr : goal.invariant-loop-attr
invariant-loop-attr l = l.places ≡ replicate l._attr None
