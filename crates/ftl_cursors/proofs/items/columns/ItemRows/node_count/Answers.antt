use Rattle.std.proofs.Common.{sym, ◌∙◌}
use Rattle.ftl_model.specs.layout.Path.{node_at}
use Rattle.ftl_cursors.specs.items.RowsCut.{is_whole_in}
use Rattle.ftl_cursors.specs.items.StageItems.{tree_in}
use Rattle.ftl_cursors.proofs.items.RowFacts.{length-nodes_by}
use Rattle.ftl_cursors.proofs.items.columns.ItemRows.node_count.Goals as goal

pub returns : goal.returns
returns c =
    let s = c.args.self.now in
    record {
      count =
          c.item_size.ensures.count
          ∙ sym (length-nodes_by (is_whole_in s) (tree_in s) (node_at (tree_in s) c.args.first));
    }
