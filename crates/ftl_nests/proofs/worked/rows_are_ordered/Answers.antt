use Rattle.ftl_nests.proofs.RowsLawful.{rows_lawful, two_rows_fit}
use Rattle.ftl_nests.proofs.RowsOrdered.{nested_rows_ordered, row_closed, slots_first_ordered}
use Rattle.ftl_nests.proofs.SheetsOrdered.{nested_in_sheet_ordered, sheet_closed}
use Rattle.ftl_nests.proofs.worked.rows_are_ordered.Goals as goal

pub returns : goal.returns
returns c = record {
  lawful = rows_lawful;
  tree = two_rows_fit;
  row = row_closed;
  sheet = sheet_closed;
  nested_rows = nested_rows_ordered;
  slots_first = slots_first_ordered;
  nested_in_sheet = nested_in_sheet_ordered;
}
