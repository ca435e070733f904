use Rattle.ftl_noncircular.proofs.walks.LedTables.{AreRowsFrom}
use Rattle.ftl_noncircular.proofs.walks.table.Walks.new.Given as goal

abbrev pub invariant-loop-start : goal.invariant-loop-start
invariant-loop-start l = AreRowsFrom l.fn.edges l.fn.starts.items l.rows.items l.start-index
