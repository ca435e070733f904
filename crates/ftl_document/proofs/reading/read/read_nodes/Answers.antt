use Rattle.ftl_document.proofs.reading.NodesRead.{nodes_read}
use Rattle.ftl_document.proofs.reading.read.read_nodes.Goals as goal

pub returns-in-Ok : goal.returns-in-Ok
returns-in-Ok c =
    record {
      answer = nodes_read c.args.checked.now c.args.scanned.now c.requires.width c.in-Ok.document c.in-Ok.ensures.answer
          c.document_nodes.result c.document_nodes.ensures.exact c.document_nodes.ensures.nodes;
    }
