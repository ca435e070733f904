use Rattle.std.proofs.Common.{refl, arith}
use Rattle.ftl_cells.specs.shared.Work.{cell_total, item_total, pred_total, next_total, next_at, step_total, target_of, reads_of_step, solution_at}
use Rattle.ftl_cells.specs.shared.State.{finds_ready}
use Rattle.ftl_replay.proofs.example_works.examples.look_at_the_first_item.Goals as goal

pub returns : goal.returns
unfolding cell_total item_total pred_total next_total next_at step_total target_of reads_of_step solution_at
returns c = record { step = finds_ready 0 refl (omega arith) refl }
