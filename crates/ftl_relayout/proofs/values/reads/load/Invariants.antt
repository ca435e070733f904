use Rattle.std.proofs.Common.{◌≡◌, map, take}
use Rattle.ftl_deps.specs.declared.parts.part_read.PartRead.{PartRead}
use Rattle.ftl_deps.specs.parts.RuleParts.{read_meant}
use Rattle.ftl_meaning.specs.grammars.Meaning.{value_seen}
use Rattle.ftl_model.specs.layout.AttributeGrammar.{occurrences}
use Rattle.ftl_visit.specs.step_reads.StepReads.{kids_in}
use Rattle.ftl_relayout.specs.values.PartSites.{value_at}
use Rattle.ftl_relayout.proofs.values.reads.load.Given as goal

-- the reads before this place are loaded
abbrev pub invariant-loop-place : goal.invariant-loop-place
invariant-loop-place l =
    take l.place l.row
    ≡ map (λ (r : PartRead). value_seen (value_at l.tree l.values l.node)
    (occurrences (kids_in l.tree l.node) l.at_hand (read_meant r))) (take l.place l.reads)
