use Rattle.ftl_deps.specs.reads.Meant.{meant}
use Rattle.ftl_tree.specs.rows.ClassRows.{AreWidths}
use Rattle.ftl_tree.proofs.trees.widths.child_widths.Given as goal

-- the widths of the classes so far
abbrev pub invariant-loop-class : goal.invariant-loop-class
invariant-loop-class l = AreWidths (meant l.checked).child_count l.class l.widths.items
