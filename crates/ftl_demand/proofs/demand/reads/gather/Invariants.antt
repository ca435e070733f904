use Rattle.std.proofs.Common.{◌≡◌, List, map, take}
use Rattle.ftl_deps.specs.parts.RuleParts.{read_meant}
use Rattle.ftl_deps.specs.reads.Meant.{meant}
use Rattle.ftl_meaning.specs.grammars.Meaning.{value_seen}
use Rattle.ftl_model.specs.layout.AttributeGrammar.{occurrences}
use Rattle.ftl_model.specs.layout.Values.{Value}
use Rattle.ftl_visit.specs.step_reads.StepReads.{kids_in}
use Rattle.ftl_demand.specs.demand.Outcomes.{value_at}
use Rattle.ftl_demand.specs.demand.Words.{IsSolution}
use Rattle.ftl_demand.proofs.demand.reads.gather.Given as goal

-- what the reads before this one give has been gathered
abbrev pub invariant-loop-read : goal.invariant-loop-read
invariant-loop-read l =
    (vs : List Value) → IsSolution (meant l.tree.checked) l.tree.tree vs
    → l.values.items
    ≡ map (λ r. value_seen (value_at l.tree vs l.node) (occurrences (kids_in l.tree l.node) l.at_hand r))
    (map read_meant (take l.read-index l.reads))
