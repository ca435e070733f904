use Rattle.std.proofs.Common.{◌≡◌, ◌++◌, drop}
use Rattle.ftl_schedule.specs.places.Entries.{entries_of_stage, passes_from}
use Rattle.ftl_schedule.proofs.places.entries.stage_entries.Given as goal

abbrev pub invariant-loop-pass : goal.invariant-loop-pass
invariant-loop-pass l =
    l.found ++ passes_from l.stage l.pass (drop l.pass l.passes) ≡ l.initial.found ++ entries_of_stage l.stage l.passes
