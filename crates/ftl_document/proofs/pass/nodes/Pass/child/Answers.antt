use Rattle.std.proofs.Common.{◌+◌, ◌<◌, ◌≤◌, List, ◌∷◌, ap, ◌∙◌, subst, drop, length, arith}
use Rattle.ftl_meaning.specs.faults.Numbering.{class_at}
use Rattle.ftl_document.specs.declared.pass.open_nodes.OpenNode.{OpenNode}
use Rattle.ftl_document.specs.pass.Left.{IsNodeLeft, at_kid}
use Rattle.ftl_document.specs.pass.Parts.{standing_at, state_of}
use Rattle.ftl_document.proofs.pass.NodesLeft.{children_ended, known_at, list_left, single_left, turn_to}
use Rattle.ftl_document.proofs.pass.Steps.{on_ok}
use Rattle.ftl_document.proofs.pass.nodes.Pass.child.Goals as goal

pub returns-then-node-child_count : goal.returns-then-node-child_count
returns-then-node-child_count c =
    let g = c.args.self.now.checked.now.grammar in
    let greatest = c.args.self.now.greatest in
    let o = c.args.node in
    let os = drop 1 c.args.stack.now in
    let past : length (class_at g o.class).children ≤ o.child =
    omega (arith, c.if-node-child_count.true, c.child_count.ensures.count) in
    let known = known_at g o c.args.stack.now c.requires.innermost c.requires.known in
    record {
      turn =
          on_ok c.mark.result (c.mark.ensures.mark greatest)
          (λ closes.
          turn_to g greatest _ _ os _ _ c.close.ensures.closed
          (record {
            known = known.1;
            left = λ end left. children_ended g greatest o.class o.node o.child os _ _ end past closes left;
          }));
    }

pub returns-then-info : goal.returns-then-info
returns-then-info c =
    let g = c.args.self.now.checked.now.grammar in
    let greatest = c.args.self.now.greatest in
    let o = c.args.node in
    let os = drop 1 c.args.stack.now in
    let info = c.child-info.result in
    let kid = standing_at info.interface o.node o.child 0 in
    let within : o.child < length (class_at g o.class).children =
    omega (arith, c.if-node-child_count.false, c.child_count.ensures.count) in
    let known = known_at g o c.args.stack.now c.requires.innermost c.requires.known in
    let now = c.replace.ensures.replaced ∙ ap (λ (p : OpenNode). p ∷ os) c.with_kid.ensures.kid in
    record {
      turn =
          on_ok c.mark-then-info.result (c.mark-then-info.ensures.mark greatest)
          (λ opens.
          turn_to g greatest _ _ (at_kid o.class o.node (o.child + 1) kid ∷ os) _ _ now
          (record {
            known = (known.0, known.1);
            left = λ end left.
                list_left g greatest o.class o.node o.child os info _ _ _ end within c.child-info.ensures.info c.if-info.true
                c.in_ok-child_name.ensures.field opens left;
          }));
    }

pub returns-else-info : goal.returns-else-info
returns-else-info c =
    let g = c.args.self.now.checked.now.grammar in
    let greatest = c.args.self.now.greatest in
    let o = c.args.node in
    let os = drop 1 c.args.stack.now in
    let info = c.child-info.result in
    let next = standing_at info.interface o.node o.child 0 in
    let within : o.child < length (class_at g o.class).children =
    omega (arith, c.if-node-child_count.false, c.child_count.ensures.count) in
    let now = c.replace-else-info.ensures.replaced ∙ ap (λ (p : OpenNode). p ∷ os) c.with_child.ensures.child in
    record {
      turn =
          on_ok c.node.result c.node.ensures.turn
          (λ h.
          record {
            known = h.known;
            left = λ end left.
                single_left g greatest o.class o.node o.child os info _ _ end within c.child-info.ensures.info c.if-info.false
                c.in_ok-child_name.ensures.field
                (subst
                (λ (l : List OpenNode). IsNodeLeft g greatest next l (state_of greatest c.child_name.new.passed) end)
                now (h.left end left));
          });
    }
