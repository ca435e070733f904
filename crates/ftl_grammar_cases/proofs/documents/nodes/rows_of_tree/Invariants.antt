use Rattle.std.proofs.Common.{◌≡◌, ℕ, map}
use Rattle.std.specs.List.{range_with_len}
use Rattle.ftl_model.specs.layout.Path.{node_at}
use Rattle.ftl_tree.specs.rows.Rows.{row_of}
use Rattle.ftl_grammar_cases.proofs.documents.nodes.rows_of_tree.Given as goal

-- the rows of the nodes so far
abbrev pub invariant-loop-node : goal.invariant-loop-node
invariant-loop-node l =
    l.rows.items ≡ map (λ (n : ℕ). row_of l.tree.tree (node_at l.tree.tree n)) (range_with_len 0 l.node)
