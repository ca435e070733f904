use Rattle.std.proofs.Common.{◌≡◌, ◌≤◌, ◌+◌, length, map, drop}
use Rattle.ftl_model.specs.layout.AttributeGrammar.{seen_by}
use Rattle.ftl_deps.specs.parts.RuleParts.{read_meant}
use Rattle.ftl_visit.specs.step_reads.StepReads.{kids_in}
use Rattle.ftl_visit.proofs.step_reads.counts.seen_count.Given as goal

abbrev pub invariant-loop-read : goal.invariant-loop-read
invariant-loop-read l = record {
  count : l.count + length (seen_by (kids_in l.tree l.node) l.at_hand (map read_meant (drop l.read-index l.reads)))
      ≡ length (seen_by (kids_in l.tree l.node) l.at_hand (map read_meant l.reads));
  bound : l.count ≤ l.read-index;
}
