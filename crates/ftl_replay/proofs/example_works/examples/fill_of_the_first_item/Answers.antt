use Rattle.std.proofs.Common.{refl, arith}
use Rattle.ftl_cells.specs.shared.Work.{cell_total, item_total, pred_total, next_total, next_at, step_total, target_of, reads_of_step, solution_at}
use Rattle.ftl_cells.specs.shared.State.{fills}
use Rattle.ftl_replay.proofs.example_works.examples.fill_of_the_first_item.Goals as goal

pub returns : goal.returns
unfolding cell_total item_total pred_total next_total next_at step_total target_of reads_of_step solution_at
returns c = record { step = fills 0 0 1 refl (omega arith) refl }
