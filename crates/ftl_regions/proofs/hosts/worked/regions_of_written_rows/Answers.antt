use Rattle.ftl_regions.proofs.hosts.WorkedHosts.{cell_closed, row_attributes, row_closed, row_region, sheet_closed, sheet_region}
use Rattle.ftl_regions.proofs.hosts.worked.regions_of_written_rows.Goals as goal

pub returns-clause-row : goal.returns-clause-row
returns-clause-row c = row_region

pub returns-clause-sheet : goal.returns-clause-sheet
returns-clause-sheet c = sheet_region

pub returns-clause-attributes : goal.returns-clause-attributes
returns-clause-attributes c = row_attributes

pub returns-clause-closed_row : goal.returns-clause-closed_row
returns-clause-closed_row c = row_closed

pub returns-clause-closed_sheet : goal.returns-clause-closed_sheet
returns-clause-closed_sheet c = sheet_closed

pub returns-clause-closed_cell : goal.returns-clause-closed_cell
returns-clause-closed_cell c = cell_closed
