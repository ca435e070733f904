use Rattle.ftl_cells.proofs.shared.Runs.{released_once, released_last}
use Rattle.ftl_cells.proofs.shared.laws.items_are_released_once.Goals as goal

pub returns : goal.returns
returns c = record {
  once = released_once;
  last = released_last;
}
