use Rattle.std.proofs.Common.{◌≡◌, ◌<◌, ℕ, ap, arith, length, ◌∙◌}
use Rattle.ftl_deps.specs.reads.Meant.{meant}
use Rattle.ftl_meaning.specs.faults.Checked.{CheckedGrammar}
use Rattle.ftl_meaning.specs.faults.Numbering as numbering
use Rattle.ftl_model.specs.layout.Path.{class_at, node_at}
use Rattle.ftl_order.proofs.orders.Kids.{class_known}
use Rattle.ftl_tree.proofs.rows.Access.{has_at}
use Rattle.ftl_tree.specs.declared.rows.row.NodeRow.{NodeRow}
use Rattle.ftl_grammar_cases.proofs.documents.instances.write_node.Goals as goal

pub child_count-child-end-requires : goal.child_count-child-end-requires
child_count-child-end-requires c =
    let t = c.args.tree.now in
    let known = class_known (meant t.checked) t.tree c.row-class.ensures.is_tree (node_at t.tree c.args.node)
    (has_at (meant t.checked) t.tree c.args.node c.row-class.ensures.is_tree c.requires.node) in
    let class = ap (λ (r : NodeRow). r.class) c.row-class.ensures.row in
    let same = ap (λ (d : CheckedGrammar). length d.grammar.classes) c.checked.ensures.grammar in
    omega (arith, known, class, same)

pub write_kids-requires : goal.write_kids-requires
write_kids-requires c =
    let t = c.args.tree.now in
    let class = ap (λ (r : NodeRow). r.class) c.row-class.ensures.row in
    let declared : length (numbering.class_at c.checked.result.now.grammar c.row-class.result.class).children
    ≡ (meant t.checked).child_count (class_at t.tree (node_at t.tree c.args.node)) =
    ap (λ (d : CheckedGrammar). length (numbering.class_at d.grammar c.row-class.result.class).children)
    c.checked.ensures.grammar
    ∙ ap (λ (k : ℕ). length (numbering.class_at t.checked.grammar k).children) class in
    record {
      at = record {
        known = c.requires.node;
        declared = omega (arith, c.loop-child-test.true, c.child_count-child-end.ensures.count, declared);
      };
    }
