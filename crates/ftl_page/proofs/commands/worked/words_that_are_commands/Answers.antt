use Rattle.ftl_page.proofs.commands.WorkedWords as worked
use Rattle.ftl_page.proofs.commands.worked.words_that_are_commands.Goals as goal

pub returns : goal.returns
returns c = record {
  run_alone = worked.is_run_alone;
  workers = worked.is_workers;
  equals = worked.is_equals;
  zeros = worked.is_zeros;
  largest = worked.is_largest;
  dashes = worked.is_dashes;
  check = worked.is_check;
  schedule = worked.is_schedule;
  explain = worked.is_explain;
  demand = worked.is_demand;
  dashes_of_demand = worked.is_dashes_of_demand;
  edit = worked.is_edit;
  workers_of_edit = worked.is_workers_of_edit;
  sample = worked.is_sample;
  sample_of = worked.is_sample_of;
}
