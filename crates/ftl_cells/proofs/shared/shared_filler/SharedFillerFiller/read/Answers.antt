use Rattle.std.proofs.Common.{refl}
use Rattle.ftl_model.specs.layout.Values.{word_of_value}
use Rattle.ftl_cells.proofs.shared.Driven.{reads_one}
use Rattle.ftl_cells.proofs.shared.shared_filler.SharedFillerFiller.read.Goals as goal

pub returns-clause-keeps : goal.returns-clause-keeps
returns-clause-keeps g c = (
  refl,
  refl,
  reads_one _ _ _ (word_of_value c.read_at.result) c.requires.working c.read_at.ensures.reached c.read_at.ensures.step,
)
