-- What the rows of a stage hold.
use Rattle.std.specs.Prelude.{ℕ, List, length, map, Option}
use Rattle.ftl_model.specs.layout.AttributeGrammar.{AttributeGrammar}
use Rattle.ftl_cursors.specs.items.HostRows.{AreNumbersFor, cut_in}
use Rattle.ftl_cursors.specs.items.RowsFit.{AreStarts}
use Rattle.ftl_cursors.specs.stages.PassTables.{ArePassTables}
use Rattle.ftl_cursors.specs.declared.items.by_host.TreeRows.{TreeRows}
use Rattle.ftl_cursors.specs.declared.stages.rows.StageRows.{StageRows}
use Rattle.ftl_schedule.specs.stages.Stages.{pass_of}
use Rattle.ftl_schedule.specs.declared.stages.types.Pass.{Pass}

-- where passes have these host classes: the numbers of the rows that tell their items, where these begin, and the
-- tables of the passes
pub record AreStageRows (g : AttributeGrammar) (items : TreeRows) (passes : List Pass) (hosts : List (Option ℕ))
    (rows : StageRows) : Type 0 where
  pub numbers : AreNumbersFor items hosts rows.cuts.items
  pub starts :
      AreStarts (length (map pass_of passes)) (cut_in items (map pass_of passes) rows.cuts.items) items.tree.now.tree
      rows.starts.items
  pub tables : ArePassTables g passes rows.tables
