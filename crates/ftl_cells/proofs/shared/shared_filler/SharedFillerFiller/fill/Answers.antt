use Rattle.std.proofs.Common.{refl}
use Rattle.ftl_cells.proofs.shared.Driven.{fills_one}
use Rattle.ftl_cells.proofs.shared.shared_filler.SharedFillerFiller.fill.Goals as goal

pub returns-clause-keeps : goal.returns-clause-keeps
returns-clause-keeps g c = (
  refl,
  refl,
  fills_one _ _ _ c.args.val c.requires.working c.fill_at.ensures.reached c.fill_at.ensures.step,
)
