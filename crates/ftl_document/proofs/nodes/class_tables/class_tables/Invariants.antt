use Rattle.std.proofs.Common.{◌≡◌, length}
use Rattle.ftl_document.specs.nodes.Tables.{AreTables}
use Rattle.ftl_document.proofs.nodes.class_tables.class_tables.Given as goal

abbrev pub invariant-loop-class : goal.invariant-loop-class
invariant-loop-class l = record {
  tables : AreTables l.checked.grammar l.tables.items;
  count : length l.tables.items ≡ l.class;
}
