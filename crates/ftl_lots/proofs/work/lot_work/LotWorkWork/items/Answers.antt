use Rattle.ftl_lots.proofs.work.LooseLaws.{loose_is_lawful}
use Rattle.ftl_lots.proofs.work.lot_work.LotWorkWork.items.Goals as goal

pub returns-clause-lawful : goal.returns-clause-lawful
returns-clause-lawful g c = loose_is_lawful c.args.self.now
