use Rattle.std.proofs.Common.{◌≡◌, ◌++◌, drop}
use Rattle.ftl_schedule.specs.places.Entries.{attributes_of}
use Rattle.ftl_nest_check.proofs.places.outer.add_attributes.Given as goal

abbrev pub invariant-loop-place : goal.invariant-loop-place
invariant-loop-place l =
    l.attrs ++ attributes_of (drop l.place l.entries) ≡ l.initial.attrs ++ attributes_of l.entries
