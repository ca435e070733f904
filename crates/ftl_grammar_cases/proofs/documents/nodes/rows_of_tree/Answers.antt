use Rattle.std.proofs.Common.{◌≡◌, ◌<◌, ◌++◌, [], ◌∷◌, ℕ, ap, ap₂, arith, length, map, refl, sym, ◌∙◌}
use Rattle.std.specs.List.{range_with_len}
use Rattle.std.proofs.lemmas.List.FromFn.{fill_by_all, map-range_with_len_more}
use Rattle.ftl_deps.specs.reads.Meant.{meant}
use Rattle.ftl_model.specs.layout.AttributeGrammar.{AttributeGrammar}
use Rattle.ftl_model.specs.layout.Path.{node_at}
use Rattle.ftl_model.specs.layout.Tree.{Forest, size}
use Rattle.ftl_model.specs.layout.TreeOf.{IsTreeOf}
use Rattle.ftl_tree.specs.rows.Rows.{row_of, rows_of}
use Rattle.ftl_tree.specs.declared.rows.row.NodeRow.{NodeRow}
use Rattle.ftl_tree.proofs.rows.Access.{at_node, length-by_node}
use Rattle.ftl_grammar_cases.proofs.documents.nodes.rows_of_tree.Goals as goal

abbrev no_row : NodeRow
no_row = record { class = 0; parent = 0; place = record { child = 0; kid = 0 } }

-- the rows by number are those in preorder
by_number : (g : AttributeGrammar) (t : Forest) → IsTreeOf g t
    → rows_of t ≡ map (λ (n : ℕ). row_of t (node_at t n)) (range_with_len 0 (size t))
by_number g t is =
    fill_by_all (λ (n : ℕ). row_of t (node_at t n)) (rows_of t) (size t) no_row
    (length-by_node g t (row_of t) (rows_of t) is refl)
    (λ k h. at_node g t (row_of t) (rows_of t) k no_row is refl h)

pub loop-node-preserved : goal.loop-node-preserved
loop-node-preserved c =
    let t = c.args.tree.now.tree in
    let n = c.loop-node.node in
    c.in_ok-push.ensures.items
    ∙ ap₂ (λ xs (x : NodeRow). xs ++ x ∷ []) c.loop-node.invariant c.row.ensures.row
    ∙ sym (map-range_with_len_more (λ (m : ℕ). row_of t (node_at t m)) 0 n n (omega arith))

pub returns : goal.returns
returns c =
    let t = c.args.tree.now in
    let all : c.loop-node.node ≡ size t.tree = omega (
      arith,
      c.loop-node-test.false,
      c.loop-node.auto.node-end,
      c.node_count-node-end.ensures.count,
    ) in
    record {
      rows =
          c.loop-node.invariant
          ∙ ap (λ m. map (λ (n : ℕ). row_of t.tree (node_at t.tree n)) (range_with_len 0 m)) all
          ∙ sym (by_number (meant t.checked) t.tree c.node_count-node-end.ensures.is_tree);
    }
