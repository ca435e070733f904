use Rattle.ftl_document.proofs.reading.ReadOnce.{any_two_trees, some_tree}
use Rattle.ftl_document.proofs.reading.laws.one_tree.Goals as goal

pub returns-clause-some : goal.returns-clause-some
returns-clause-some c = some_tree

pub returns-clause-any_two : goal.returns-clause-any_two
returns-clause-any_two c = any_two_trees
