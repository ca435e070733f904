use Rattle.std.proofs.Common.{◌||◌, ◌+◌, drop, ◌∙◌, ap, sym, arith}
use Rattle.std.specs.List.{list_any}
use Rattle.ftl_model.specs.layout.Path.{preorder}
use Rattle.ftl_tree.specs.boxes.Shows.{shows_in}
use Rattle.ftl_tree.proofs.boxes.Lines.{overflows_all, overflows_at, overflows_more}
use Rattle.ftl_tree.proofs.boxes.print.shows_overflow.Goals as goal

pub returns-then-node_overflows : goal.returns-then-node_overflows
returns-then-node_overflows c =
    let t = c.args.tree.now in
    let words = c.args.words.now in
    let later = list_any (overflows_at t words) (drop (c.loop-node.node + 1) (preorder t.tree)) in
    let any =
    c.node_overflows.ensures.any ∙ ap (list_any (shows_in t words c.loop-node.node)) c.shown_by.ensures.shown in
    record {
      shown =
          sym
          (c.loop-node.invariant
          ∙ overflows_more t c.loop-node.node c.node_count-node-end.ensures.is_tree
          (omega (arith, c.node_count-node-end.ensures.count)) words
          ∙ ap (λ b. b || later) (sym any ∙ c.if-node_overflows.true));
    }

pub loop-node-preserved : goal.loop-node-preserved
loop-node-preserved c =
    let t = c.args.tree.now in
    let words = c.args.words.now in
    let later = list_any (overflows_at t words) (drop (c.loop-node.node + 1) (preorder t.tree)) in
    let any =
    c.node_overflows.ensures.any ∙ ap (list_any (shows_in t words c.loop-node.node)) c.shown_by.ensures.shown in
    c.loop-node.invariant
    ∙ overflows_more t c.loop-node.node c.node_count-node-end.ensures.is_tree
    (omega (arith, c.node_count-node-end.ensures.count)) words
    ∙ ap (λ b. b || later) (sym any ∙ c.if-node_overflows.false)

pub returns : goal.returns
returns c = record {
  shown =
      sym
      (c.loop-node.invariant
      ∙ overflows_all c.args.tree.now c.args.words.now c.loop-node.node c.node_count-node-end.ensures.is_tree
      (omega (arith, c.node_count-node-end.ensures.count)));
}
