use Rattle.ftl_cursors.proofs.classes.SetLemmas.{has_class, has_others}
use Rattle.ftl_cursors.proofs.classes.sets.with_class.Goals as goal

pub returns-clause-has : goal.returns-clause-has
returns-clause-has c = has_class c.args.set c.args.class

pub returns-clause-stays : goal.returns-clause-stays
returns-clause-stays c = has_others c.args.set c.args.class
