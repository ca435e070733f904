use Rattle.std.proofs.Common.{◌≡◌, ◌++◌, drop}
use Rattle.ftl_schedule.specs.places.Entries.{entries_from, entries_of_pass}
use Rattle.ftl_schedule.proofs.places.entries.pass_entries.Given as goal

abbrev pub invariant-loop-index : goal.invariant-loop-index
invariant-loop-index l =
    l.found ++ entries_from l.stage l.pass l.kind l.index (drop l.index l.attrs)
    ≡ l.initial.found ++ entries_of_pass l.stage l.pass l.kind l.attrs
