use Rattle.ftl_cells.proofs.shared.Consequences.{read_finds}
use Rattle.ftl_cells.proofs.shared.laws.reads_find_values.Goals as goal

pub returns : goal.returns
returns c = record {
  values =
      λ m words hands law k h i j r. read_finds m words hands h i j r law k;
}
