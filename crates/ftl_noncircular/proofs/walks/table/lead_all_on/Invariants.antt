use Rattle.ftl_noncircular.proofs.walks.LedTables.{AreLedBelow}
use Rattle.ftl_noncircular.proofs.walks.table.lead_all_on.Given as goal

abbrev pub invariant-loop-row : goal.invariant-loop-row
invariant-loop-row l = AreLedBelow l.edges l.initial.rows l.rows l.row l.changed
