use Rattle.std.proofs.Common.{refl}
use Rattle.ftl_cells.specs.shared.Work.{cell_total, item_total, pred_total, next_total, next_at, step_total, target_of, reads_of_step, solution_at}
use Rattle.ftl_replay.proofs.example_works.examples.opening_of_the_diamond.Goals as goal

pub returns : goal.returns
unfolding cell_total item_total pred_total next_total next_at step_total target_of reads_of_step solution_at
returns c = record { words = refl }
