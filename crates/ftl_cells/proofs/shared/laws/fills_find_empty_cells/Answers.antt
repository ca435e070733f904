use Rattle.ftl_cells.proofs.shared.Consequences.{fill_finds}
use Rattle.ftl_cells.proofs.shared.laws.fills_find_empty_cells.Goals as goal

pub returns : goal.returns
returns c = record {
  empty =
      λ m words hands k h i j r. fill_finds m words hands h i j r k;
}
