use Rattle.std.proofs.Common.{◌≡◌, ◌++◌, replicate, None}
use Rattle.ftl_document.proofs.fields.node_fields.add_empty.Given as goal

abbrev pub invariant-loop-place : goal.invariant-loop-place
invariant-loop-place l = l.values.items ≡ l.initial.values.items ++ replicate l._place None
