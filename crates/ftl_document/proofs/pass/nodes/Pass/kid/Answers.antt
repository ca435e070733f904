use Rattle.std.proofs.Common.{List, ◌∷◌, ap, ◌∙◌, subst, drop}
use Rattle.ftl_document.specs.declared.pass.open_nodes.OpenNode.{OpenNode}
use Rattle.ftl_document.specs.pass.Left.{IsNodeLeft, at_child, at_kid}
use Rattle.ftl_document.specs.pass.Parts.{state_of}
use Rattle.ftl_document.proofs.pass.NodesLeft.{kid_left, known_at, list_ended, turn_to}
use Rattle.ftl_document.proofs.pass.Steps.{on_ok}
use Rattle.ftl_document.proofs.pass.nodes.Pass.kid.Goals as goal

pub returns-then-ends : goal.returns-then-ends
returns-then-ends c =
    let g = c.args.self.now.checked.now.grammar in
    let greatest = c.args.self.now.greatest in
    let o = c.args.node in
    let os = drop 1 c.args.stack.now in
    let known = known_at g o c.args.stack.now c.requires.innermost c.requires.known in
    let now = c.replace.ensures.replaced ∙ ap (λ (p : OpenNode). p ∷ os) c.with_child.ensures.child in
    record {
      turn =
          on_ok c.mark.result (c.mark.ensures.mark greatest)
          (λ closes.
          turn_to g greatest _ _ (at_child o.class o.node o.child ∷ os) _ _ now
          (record {
            known = (known.0, known.1);
            left = λ end left.
                list_ended g greatest o.class o.node o.child c.args.kid os _ _ _ end (c.ends.ensures.same greatest) closes left;
          }));
    }

pub returns : goal.returns
returns c =
    let g = c.args.self.now.checked.now.grammar in
    let greatest = c.args.self.now.greatest in
    let o = c.args.node in
    let kid = c.args.kid in
    let os = drop 1 c.args.stack.now in
    let now = c.replace-2.ensures.replaced
    ∙ ap (λ (p : OpenNode). p ∷ os) (c.with_kid-2.ensures.kid ∙ ap (at_kid o.class o.node o.child) c.with_kid.ensures.next) in
    record {
      turn =
          on_ok c.node.result c.node.ensures.turn
          (λ h.
          record {
            known = h.known;
            left = λ end left.
                kid_left g greatest o.class o.node o.child kid os _ _ end (c.ends.ensures.same greatest)
                (subst
                (λ (l : List OpenNode). IsNodeLeft g greatest kid l (state_of greatest c.ends.new.self) end)
                now (h.left end left));
          });
    }
