use Rattle.ftl_cells.specs.shared.Kept.{Owes}
use Rattle.ftl_cells.proofs.shared.Counting.{one_count}
use Rattle.ftl_replay.proofs.example_works.examples.one_number_of_predecessors.Goals as goal

pub returns : goal.returns
returns c = record { one = λ m s i n l a b. one_count (Owes m s i) a b }
