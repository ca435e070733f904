use Rattle.ftl_scheduler.proofs.outcomes.RowLists.{rows_give_list}
use Rattle.ftl_scheduler.proofs.outcomes.laws.rows_give_lists.Goals as goal

pub returns : goal.returns
returns c = record { lists = rows_give_list }
