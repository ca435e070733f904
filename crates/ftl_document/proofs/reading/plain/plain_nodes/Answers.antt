use Rattle.ftl_document.proofs.reading.TextNodes.{text_nodes}
use Rattle.ftl_document.proofs.reading.plain.plain_nodes.Goals as goal

pub returns-in-Ok : goal.returns-in-Ok
returns-in-Ok c = record {
  nodes =
      let read = rw c.in-Some.is at c.in_ok-document.ensures.read in
      text_nodes c.args.checked.now c.args.greatest c.args.text.now c.in-Some.document c.in-Ok.nodes c.requires.width read
      c.in-Ok.ensures.exact c.in-Ok.ensures.nodes;
}
