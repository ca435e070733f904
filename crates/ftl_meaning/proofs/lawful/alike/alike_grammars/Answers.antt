use Rattle.ftl_meaning.proofs.lawful.AlikeTrees.{same_solutions, same_trees}
use Rattle.ftl_meaning.proofs.lawful.alike.alike_grammars.Goals as goal

pub returns : goal.returns
returns c = record { trees = same_trees; solutions = same_solutions }
