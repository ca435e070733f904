use Rattle.std.proofs.Common.{◌≡◌, ◌++◌, drop}
use Rattle.ftl_schedule.specs.places.Entries.{all_entries, stages_from}
use Rattle.ftl_schedule.proofs.places.entries.all_entries.Given as goal

abbrev pub invariant-loop-stage : goal.invariant-loop-stage
invariant-loop-stage l = l.found ++ stages_from l.stage (drop l.stage l.stages) ≡ all_entries l.schedule
