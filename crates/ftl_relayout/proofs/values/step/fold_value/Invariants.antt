use Rattle.std.proofs.Common.{◌≡◌, ◌≤◌, ◌+◌}
use Rattle.ftl_meaning.specs.grammars.Meaning.{sight}
use Rattle.ftl_model.specs.layout.AttributeGrammar.{from_part, with_part}
use Rattle.ftl_model.specs.layout.Folds.{fold_kids}
use Rattle.ftl_model.specs.layout.Values.{Value, overflow}
use Rattle.ftl_visit.specs.rule_values.PartValues.{part_value}
use Rattle.ftl_visit.specs.step_reads.StepReads.{kids_in}
use Rattle.ftl_relayout.specs.values.PartSites.{CanRun, value_at}
use Rattle.ftl_relayout.proofs.values.step.fold_value.Given as goal

-- so far is what the start and the kids before give
abbrev pub invariant-loop-kid : goal.invariant-loop-kid
invariant-loop-kid l = record {
  folded : l.so_far
      ≡ fold_kids l.kid
      (λ (so_far : Value) m.
      part_value l.tree.checked l.step.rule with_part
      (sight (kids_in l.tree l.step.node) m (value_at l.tree l.values l.step.node) so_far))
      (part_value l.tree.checked l.step.rule from_part
      (sight (kids_in l.tree l.step.node) l.step.kid (value_at l.tree l.values l.step.node) overflow));
  grows : l.fn.runner.runs ≤ l.runner.runs;
  count : l.runner.runs ≤ l.fn.runner.runs + (1 + l.kid);
  programs : l.runner.programs ≡ l.fn.runner.programs;
  runs : CanRun l.tree.checked l.runner l.buffers;
}
