use Rattle.ftl_relayout.proofs.laws.Rising.{keys_rise}
use Rattle.ftl_relayout.proofs.laws.keys_rise.Goals as goal

pub returns : goal.returns
returns c = record { rise = keys_rise }
