use Rattle.ftl_regions.proofs.hosts.WorkedHosts.{cell_at_root_region, cells_in_sheets_region, other_parent, rows_in_rows_region}
use Rattle.ftl_regions.proofs.hosts.worked.written_rows_that_are_open.Goals as goal

pub returns-clause-rows_in_rows : goal.returns-clause-rows_in_rows
returns-clause-rows_in_rows c = rows_in_rows_region

pub returns-clause-cell_at_root : goal.returns-clause-cell_at_root
returns-clause-cell_at_root c = cell_at_root_region

pub returns-clause-cells_in_sheets : goal.returns-clause-cells_in_sheets
returns-clause-cells_in_sheets c = cells_in_sheets_region

pub returns-clause-other_parent : goal.returns-clause-other_parent
returns-clause-other_parent c = other_parent
