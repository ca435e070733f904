use Rattle.std.proofs.Common.{refl}
use Rattle.ftl_example.proofs.trees.laws.worked_examples.Goals as goal

pub returns : goal.returns
returns c = record { sizes = refl; nested = refl; beside = refl; deeper = refl; alone = (refl, refl); unreached = refl }
