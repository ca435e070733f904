use Rattle.std.proofs.Common.{◌<◌, length, sym, subst, arith}
use Rattle.ftl_meaning.specs.faults.Checked.{CheckedGrammar}
use Rattle.ftl_model.specs.layout.Path.{node_at}
use Rattle.ftl_order.proofs.orders.Kids.{class_known}
use Rattle.ftl_deps.specs.reads.Meant.{meant}
use Rattle.ftl_tree.proofs.rows.Access.{has_at}
use Rattle.ftl_cursors.proofs.items.kids.child_count.Goals as goal

pub child_count-requires : goal.child_count-requires
child_count-requires c =
    let t = c.args.tree.now in
    let fits = c.node_count-nodes.ensures.is_tree in
    let known =
    class_known (meant t.checked) t.tree fits (node_at t.tree c.args.node)
    (has_at (meant t.checked) t.tree c.args.node fits c.requires.node) in
    let class = c.class.ensures.class in
    record {
      within =
          subst (λ (x : CheckedGrammar). c.class.result < length x.grammar.classes) (sym c.checked.ensures.grammar)
          (omega (arith, known, class));
    }
