use Rattle.ftl_cursors.proofs.classes.SetLemmas.{has_first, has_second}
use Rattle.ftl_cursors.proofs.classes.sets.with_all.Goals as goal

pub returns-clause-have : goal.returns-clause-have
returns-clause-have c = has_second c.args.set c.args.other

pub returns-clause-stay : goal.returns-clause-stay
returns-clause-stay c = has_first c.args.set c.args.other
