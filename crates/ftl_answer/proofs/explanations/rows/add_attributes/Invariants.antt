use Rattle.std.proofs.Common.{◌≡◌, ◌++◌, take}
use Rattle.ftl_answer.specs.explanations.Rows.{node_rows}
use Rattle.ftl_answer.proofs.explanations.rows.add_attributes.Given as goal

-- the rows of the attributes so far
abbrev pub invariant-loop-attr : goal.invariant-loop-attr
invariant-loop-attr l = l.rows.items ≡ l.fn.rows.items ++ node_rows l.node (take l.attr-index l.attrs)
