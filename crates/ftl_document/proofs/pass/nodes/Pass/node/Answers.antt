use Rattle.ftl_document.proofs.pass.NodesLeft.{node_left}
use Rattle.ftl_document.proofs.pass.Steps.{on_ok}
use Rattle.ftl_document.proofs.pass.nodes.Pass.node.Goals as goal

pub returns : goal.returns
returns c =
    let g = c.args.self.now.checked.now.grammar in
    let greatest = c.args.self.now.greatest in
    record {
      turn =
          on_ok c.children.result c.children.ensures.turn
          (λ h.
          record {
            known = h.known;
            left = λ end left.
                node_left g greatest c.args.next c.in_ok-class.class c.in_ok-node.node c.args.stack.now _ _ _ _ _ end
                (c.has_room.ensures.room c.if-not-has_room.false) c.in_ok-class.ensures.class
                (c.in_ok-mark.ensures.mark greatest) c.in_ok-node.ensures.number
                (c.in_ok-node.ensures.entered g greatest c.width.ensures.width) c.in_ok-inputs.ensures.inputs
                (h.left end left);
          });
    }
