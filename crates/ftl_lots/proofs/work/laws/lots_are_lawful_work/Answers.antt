use Rattle.ftl_lots.proofs.work.LooseLaws.{loose_is_lawful, loose_items}
use Rattle.ftl_lots.proofs.work.laws.lots_are_lawful_work.Goals as goal

pub returns : goal.returns
returns c = record { lawful = loose_is_lawful; count = loose_items }
