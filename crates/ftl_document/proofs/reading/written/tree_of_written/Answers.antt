use Rattle.ftl_base.specs.Widths.{greatest_of_width}
use Rattle.ftl_document.specs.faults.DocumentTree.{tree_of}
use Rattle.ftl_document.proofs.reading.WrittenWithin.{within_by_rows}
use Rattle.ftl_document.proofs.reading.written.tree_of_written.Goals as goal

pub from_nodes-requires : goal.from_nodes-requires
from_nodes-requires c =
    let k = c.args.checked.now in
    let node = c.requires.written.node in
    let is = c.requires.written.is in
    let greatest = greatest_of_width k.width in
    record {
      nodes = (
        tree_of k.grammar node,
        c.in_ok-rows.ensures.nodes node greatest is
            (within_by_rows greatest node c.args.document.now is c.requires.within),
      );
    }

pub returns-clause-tree : goal.returns-clause-tree
returns-clause-tree c node is =
    let k = c.args.checked.now in
    let greatest = greatest_of_width k.width in
    c.in_ok-tree.ensures.tree (tree_of k.grammar node)
    (c.in_ok-rows.ensures.nodes node greatest is
    (within_by_rows greatest node c.args.document.now is c.requires.within))
