use Rattle.std.proofs.Common.{◌≡◌, ◌++◌, drop, map}
use Rattle.ftl_nest_check.specs.places.NestPlaced.{inner_entries, stage_entries}
use Rattle.ftl_nest_check.proofs.places.inner.inner_entries.Given as goal

abbrev pub invariant-loop-stage : goal.invariant-loop-stage
invariant-loop-stage l = l.rows ++ map stage_entries (drop l.stage l.all) ≡ inner_entries l.schedule
