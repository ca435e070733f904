use Rattle.ftl_document.specs.pass.Parts.{state_of}
use Rattle.ftl_document.proofs.pass.NodesLeft.{document_left}
use Rattle.ftl_document.proofs.pass.nodes.Pass.document.Goals as goal

pub returns-then-is_done : goal.returns-then-is_done
returns-then-is_done c =
    let greatest = c.args.self.now.greatest in
    record {
      document =
          document_left c.args.self.now.checked.now.grammar greatest c.root.result _ _ _ c.new-stack.ensures.empty
          c.root.ensures.root
          (c.in_ok-node.ensures.turn.left (state_of greatest c.finish.new.passed) c.in_ok-finish.ensures.left)
          (c.is_done.ensures.done c.if-is_done.true greatest);
    }
