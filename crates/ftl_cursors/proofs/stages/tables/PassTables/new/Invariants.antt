use Rattle.std.proofs.Common.{◌≡◌, map, take}
use Rattle.ftl_deps.specs.reads.Meant.{meant}
use Rattle.ftl_cursors.specs.stages.PassTables.{pass_places, pass_visits}
use Rattle.ftl_cursors.proofs.stages.tables.PassTables.new.Given as goal

abbrev pub invariant-loop-pass : goal.invariant-loop-pass
invariant-loop-pass l =
    (l.visits.items ≡ map (pass_visits (meant l.index)) (take l.pass-index l.passes))
    × (l.places.items ≡ map (pass_places (meant l.index)) (take l.pass-index l.passes))
