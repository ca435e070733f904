use Rattle.std.proofs.Common.{◌≡◌, map, slice_index_or, take}
use Rattle.ftl_tree.specs.declared.rows.row.NodeRow.{NodeRow}
use Rattle.ftl_tree.proofs.rows.columns.row_widths.Given as goal

-- the widths so far
abbrev pub invariant-loop-row : goal.invariant-loop-row
invariant-loop-row l = l.widths.items ≡ map (λ (row : NodeRow). slice_index_or l.table row.class 0) (take l.row-index l.rows)
