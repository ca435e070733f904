use Rattle.std.proofs.Common.{take}
use Rattle.ftl_checked.specs.names.Table.{FindsAll}
use Rattle.ftl_checked.proofs.names.table.places_of.Given as goal

abbrev pub invariant-loop-place : goal.invariant-loop-place
invariant-loop-place l = FindsAll (take l.place l.names) l.places
