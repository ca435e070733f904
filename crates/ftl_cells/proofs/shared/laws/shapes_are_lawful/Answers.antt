use Rattle.ftl_cells.proofs.shared.Shapes.{is_lawful}
use Rattle.ftl_cells.proofs.shared.laws.shapes_are_lawful.Goals as goal

pub returns : goal.returns
returns c = record {
  lawful =
      is_lawful;
}
