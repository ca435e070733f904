use Rattle.std.proofs.Common.{◌≡◌, ◌<◌, ◌+◌, ◌++◌, ◌∷◌, [], List, ℕ, suc, length, ap, ap₂, sym, subst, ◌∙◌, arith}
use Rattle.ftl_model.specs.layout.Path.{node_at, preorder}
use Rattle.ftl_model.specs.layout.Tree.{below_of, size}
use Rattle.ftl_model.proofs.layout.Numbering.{length-preorder}
use Rattle.ftl_deps.specs.reads.Meant.{meant}
use Rattle.ftl_order.proofs.orders.Kids.{root_there}
use Rattle.ftl_tree.proofs.rows.Access.{has_at, number_at, size-one}
use Rattle.ftl_cursors.specs.items.WholeTrees.{is_whole_at}
use Rattle.ftl_cursors.specs.visits.ItemSteps.{node_count_by}
use Rattle.ftl_cursors.proofs.items.FirstNodes.{EndsAt, begins_at, begins_none, end_first, end_kept, end_next}
use Rattle.ftl_cursors.proofs.items.RowSteps.{before_more, before_to, few_before, firsts_end, firsts_kept, firsts_more, length-firsts_to}
use Rattle.ftl_cursors.proofs.visits.ItemLemmas.{nodes_within}
use Rattle.ftl_cursors.proofs.items.columns.ItemRows.new.Goals as goal
use Rattle.ftl_cursors.proofs.items.columns.ItemRows.new.Goals.{else-end-node, then-end-node+in_ok-push-2}

pub overflow_cast-len : goal.overflow_cast-len
overflow_cast-len c =
    let t = c.args.tree.now.tree in
    let n = c.loop-node.node in
    let is_whole = is_whole_at c.args.host t c.args.grain in
    let same = ap length c.loop-node.invariant.firsts in
    let len = length-firsts_to is_whole t n in
    let few = few_before is_whole t n in
    let read = c.len.ensures in
    let test = c.loop-node-test.true in
    let bound = c.node_count-node-end.ensures.bound in
    omega (arith, same, len, few, read, test, bound)

pub loop-node-init : goal.loop-node-init
loop-node-init c =
    let t = c.args.tree.now in
    let fits = c.node_count-node-end.ensures.is_tree in
    record {
      firsts = c.new-firsts.ensures.items;
      before = c.in_ok-before.ensures.items;
      ends = end_first (is_whole_at c.args.host t.tree c.args.grain) t.tree (root_there (meant t.checked) t.tree fits);
    }

pub overflow_add-end : goal.overflow_add-end
overflow_add-end c =
    let t = c.args.tree.now in
    let g = meant t.checked in
    let n = c.loop-node.node in
    let fits = c.node_count-node-end.ensures.is_tree in
    let count = c.node_count-node-end.ensures.count in
    let bound = c.node_count-node-end.ensures.bound in
    let test = c.loop-node-test.true in
    let known : n < size t.tree = omega (arith, count, test) in
    let is_whole = is_whole_at c.args.host t.tree c.args.grain in
    let within = nodes_within g t.tree fits is_whole (node_at t.tree n) (has_at g t.tree n fits known) in
    let number = number_at g t.tree n fits known in
    let more = c.item_size.ensures.count in
    omega (arith, within, number, more, count, bound)

pub loop-node-preserved : goal.loop-node-preserved
loop-node-preserved c =
    let t = c.args.tree.now in
    let g = meant t.checked in
    let n = c.loop-node.node in
    let is_whole = is_whole_at c.args.host t.tree c.args.grain in
    let fits = c.node_count-node-end.ensures.is_tree in
    let is = root_there g t.tree fits in
    let count = c.node_count-node-end.ensures.count in
    let test = c.loop-node-test.true in
    let one = size-one g t.tree fits in
    let all = length-preorder t.tree in
    let known : n < length (preorder t.tree) = omega (arith, count, test, one, all) in
    let low : n < suc (size (below_of t.tree)) = omega (arith, count, test, one) in
    let number = number_at g t.tree n fits (omega (arith, count, test)) in
    let inv = c.loop-node.invariant in
    let pushed : c.len.result ≡ length c.loop-node.firsts.items = omega (arith, c.len.ensures) in
    let len = pushed ∙ ap length inv.firsts ∙ length-firsts_to is_whole t.tree n in
    let add : suc n ≡ n + 1 = omega arith in
    record {
      firsts =
          elim c.if-end-node.branch [
            | then-end-node+in_ok-push-2 w ↦
                ap (λ v. v.items) w.firsts-is
                ∙ w.in_ok-push-2.ensures.items
                ∙ ap (λ (ns : List ℕ). ns ++ n ∷ []) inv.firsts
                ∙ sym
                (firsts_more is_whole t.tree n known
                ((begins_at is_whole t.tree is n c.loop-node.end inv.ends low).1 w.if-end-node.true) number)
            | else-end-node w ↦
                ap (λ v. v.items) w.firsts-is
                ∙ inv.firsts
                ∙ sym
                (firsts_kept is_whole t.tree n known
                (begins_none is_whole t.tree is n c.loop-node.end inv.ends low w.if-end-node.false))
          ];
      before =
          c.in_ok-push.ensures.items
          ∙ ap₂ (λ (ns : List ℕ) m. ns ++ m ∷ []) inv.before len
          ∙ sym (before_more is_whole t.tree n);
      ends =
          elim c.if-end-node.branch [
            | then-end-node+in_ok-push-2 w ↦
                subst (λ e. EndsAt is_whole t.tree (n + 1) e)
                (ap (λ k. n + k) (sym w.item_size.ensures.count) ∙ sym w.end-is)
                (subst
                (λ m. EndsAt is_whole t.tree m (n + node_count_by is_whole t.tree (node_at t.tree n))) add
                (end_next is_whole t.tree is n c.loop-node.end inv.ends low w.if-end-node.true))
            | else-end-node w ↦
                subst (λ e. EndsAt is_whole t.tree (n + 1) e) (sym w.end-is)
                (subst (λ m. EndsAt is_whole t.tree m c.loop-node.end) add
                (end_kept is_whole t.tree is n c.loop-node.end inv.ends low w.if-end-node.false))
          ];
    }

pub invariant_of-result : goal.invariant_of-result
invariant_of-result c =
    let t = c.args.tree.now in
    let g = meant t.checked in
    let n = c.loop-node.node in
    let is_whole = is_whole_at c.args.host t.tree c.args.grain in
    let fits = c.node_count-node-end.ensures.is_tree in
    let count = c.node_count-node-end.ensures.count in
    let past = c.loop-node-test.false in
    let most = c.loop-node.auto.node-end in
    let one = size-one g t.tree fits in
    let all = length-preorder t.tree in
    record {
      fit = record {
        firsts_are =
            c.loop-node.invariant.firsts ∙ firsts_end is_whole t.tree n (omega (arith, count, past, one, all));
        before_are =
            c.loop-node.invariant.before ∙ ap (before_to is_whole t.tree) (omega (arith, count, past, most));
      };
    }
