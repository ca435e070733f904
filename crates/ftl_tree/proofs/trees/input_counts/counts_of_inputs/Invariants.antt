use Rattle.std.proofs.Common.{◌≡◌, ◌<◌, ◌≤◌, ℕ, length, slice_index_or}
use Rattle.ftl_deps.specs.reads.Meant.{meant}
use Rattle.ftl_tree.specs.rows.ClassRows.{inputs_below}
use Rattle.ftl_tree.proofs.trees.input_counts.counts_of_inputs.Given as goal

-- the counts so far
abbrev pub invariant-loop-attr : goal.invariant-loop-attr
invariant-loop-attr l = record {
  places : length l.counts.items ≡ l.attr;
  each : (a : ℕ) → a < l.attr → slice_index_or l.counts.items a 0 ≡ inputs_below (meant l.checked) a;
  here : l.count ≡ inputs_below (meant l.checked) l.attr;
  few : l.count ≤ l.attr;
}
