use Rattle.ftl_nests.proofs.RowsRefused.{cell_at_root_region, cells_in_sheets_region, host_inside, other_parent, root_inside, row_region, rows_in_rows_region}
use Rattle.ftl_nests.proofs.SheetsOrdered.{sheet_region}
use Rattle.ftl_nests.proofs.worked.regions_of_rows.Goals as goal

pub returns : goal.returns
returns c = record {
  row = row_region;
  sheet = sheet_region;
  rows_in_rows = rows_in_rows_region;
  host_inside = host_inside;
  cell_at_root = cell_at_root_region;
  root_inside = root_inside;
  cells_in_sheets = cells_in_sheets_region;
  other_parent = other_parent;
}
