use Rattle.ftl_document_printing.proofs.trees.Turns.{kid_closing, parent_there}
use Rattle.ftl_document_printing.proofs.trees.print.close_node.Goals as goal

pub returns-in_ok-write_mark-in-Some : goal.returns-in_ok-write_mark-in-Some
returns-in_ok-write_mark-in-Some c =
    let t = c.args.tree.now in
    record {
      goes = kid_closing t c.tree_is_lawful.ensures.is_tree c.tree_is_lawful.ensures.faultless c.args.node
          c.in-Some.parent
          c.args.child c.place_behind.result _ _
          (parent_there t c.args.node c.in-Some.parent c.in-Some.ensures.parent) c.requires.past
          c.in_ok-write_mark-in-Some.ensures.text c.place_behind.ensures.left c.place_behind.ensures.writer_place;
    }
