-- A tree with its grammar.
use Rattle.ftl_model.specs.layout.Tree.{Forest}
use Rattle.ftl_meaning.specs.faults.Checked.{CheckedGrammar}

-- a checked grammar, and a tree
pub record CheckedTree : Type 0 where
  pub checked : CheckedGrammar
  pub tree : Forest
