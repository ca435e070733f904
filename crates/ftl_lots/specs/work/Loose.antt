-- Lots as items: so many that wait for none, without steps and without cells.
use Rattle.ftl_model.specs.layout.Values.{overflow}
use Rattle.ftl_cells.specs.shared.Shape.{WorkShape}
use Rattle.ftl_cells.specs.declared.shared.kind.CellKind.TheVariants.{Later}
use Rattle.ftl_lots.specs.table.Lots.{Wanted, lot_total}

-- whoever fills them needs as much room as the work that the lots are of
abbrev pub loose : Wanted → WorkShape
loose w = record {
  cells = 0;
  kind = λ c. Later;
  value = λ c. overflow;
  items = lot_total w;
  preds = λ i. 0;
  next_count = λ i. 0;
  next = λ i k. 0;
  steps = λ i. 0;
  target = λ i j. 0;
  read_count = λ i j. 0;
  read = λ i j r. 0;
  max_reads = w.of.max_reads;
  max_stack = w.of.max_stack;
}
