use Rattle.ftl_cells.proofs.shared.Names.{named_once, made_by_steps}
use Rattle.ftl_cells.proofs.shared.laws.hands_have_names.Goals as goal

pub returns : goal.returns
returns c = record { once = named_once; makers = made_by_steps }
