use Rattle.std.proofs.Common.{◌≡◌, ◌<◌, ℕ, length, slice_index_or}
use Rattle.ftl_deps.specs.reads.Meant.{meant}
use Rattle.ftl_tree.specs.rows.ClassRows.{IsClassRow, no_attributes}
use Rattle.ftl_tree.proofs.trees.class_table.class_rows.Given as goal

-- the rows of the classes so far
abbrev pub invariant-loop-class : goal.invariant-loop-class
invariant-loop-class l = record {
  count : length l.rows.items ≡ l.class;
  each : (k : ℕ) → k < l.class → IsClassRow (meant l.checked) k (slice_index_or l.rows.items k no_attributes);
}
