use Rattle.std.proofs.Common.{◌≡◌, ◌++◌, drop, map}
use Rattle.ftl_checked.specs.grammars.ReadNumbers.{leaf_in}
use Rattle.ftl_deps.specs.reads.Meant.{reads_among}
use Rattle.ftl_deps.specs.parts.RuleParts.{read_meant}
use Rattle.ftl_deps.proofs.parts.written_parts.reads_of.Given as goal

abbrev pub invariant-loop-read : goal.invariant-loop-read
invariant-loop-read l =
    map read_meant l.reads ++ reads_among (map leaf_in (drop l.read-index l.part.reads))
    ≡ reads_among (map leaf_in l.part.reads)
