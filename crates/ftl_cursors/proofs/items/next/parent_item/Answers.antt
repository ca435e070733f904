use Rattle.std.proofs.Common.{◌≡◌, ◌+◌, ◌∷◌, [], ap, sym, subst, ◌∙◌, true}
use Rattle.ftl_items.specs.stage_items.Cut.{begins_by}
use Rattle.ftl_model.specs.layout.Path.{Path, node_at}
use Rattle.ftl_order.specs.orders.Schedule.{bottomup}
use Rattle.ftl_deps.specs.reads.Meant.{meant}
use Rattle.ftl_items.specs.numbers.ItemNumbers.{item_above_by, place_by}
use Rattle.ftl_tree.proofs.rows.Access.{has_at}
use Rattle.ftl_cursors.specs.items.RowsCut.{is_whole_in}
use Rattle.ftl_cursors.specs.items.RowsFit.{IsBegunBelow}
use Rattle.ftl_cursors.proofs.items.Parents.{parent_of_node}
use Rattle.ftl_cursors.proofs.items.next.parent_item.Goals as goal

pub place-requires-clause-node : goal.place-requires-clause-node
place-requires-clause-node c =
    let t = c.args.rows.now.tree.now in
    let g = meant t.checked in
    let fits = c.node_count-nodes.ensures.is_tree in
    (parent_of_node g t.tree fits (node_at t.tree c.args.node) c.in-Some.parent
    (has_at g t.tree c.args.node fits c.requires.node) c.in-Some.ensures.parent).known

pub place-requires-clause-begins : goal.place-requires-clause-begins
place-requires-clause-begins c =
    let s = c.args.rows.now in
    let t = s.tree.now in
    let g = meant t.checked in
    let fits = c.node_count-nodes.ensures.is_tree in
    let up =
    parent_of_node g t.tree fits (node_at t.tree c.args.node) c.in-Some.parent
    (has_at g t.tree c.args.node fits c.requires.node) c.in-Some.ensures.parent in
    subst (λ (q : Path). begins_by (is_whole_in s) q ≡ true) (sym up.node)
    (subst (λ (q : Path). IsBegunBelow (is_whole_in s) q) up.is c.requires.parent)

pub returns : goal.returns
returns c =
    let s = c.args.rows.now in
    let t = s.tree.now in
    let g = meant t.checked in
    let fits = c.node_count-nodes.ensures.is_tree in
    let up =
    parent_of_node g t.tree fits (node_at t.tree c.args.node) c.in-Some.parent
    (has_at g t.tree c.args.node fits c.requires.node) c.in-Some.ensures.parent in
    record {
      item = λ start.
          ap (item_above_by bottomup (is_whole_in s) t.tree start) up.is
          ∙ ap (λ n. (start + n) ∷ [])
          (sym (c.place.ensures.place ∙ ap (place_by bottomup (is_whole_in s) t.tree) up.node));
    }
