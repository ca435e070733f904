-- Which words are those of values that solve a tree.
use Rattle.std.specs.Prelude.{ℕ, ◌<◌, List, length, slice_index_or}
use Rattle.ftl_deps.specs.reads.Meant.{meant}
use Rattle.ftl_items.specs.stage_items.WordLaws.{HoldTheSolution}
use Rattle.ftl_model.specs.layout.Table.{SolvesList}
use Rattle.ftl_model.specs.layout.Values.{IsValue, Value, overflow}
use Rattle.ftl_tree.specs.trees.CheckedTree.{CheckedTree}

-- the words are those of values that solve the tree
pub record IsSolvedBy (t : CheckedTree) (words : List ℕ) : Type 0 where
  pub values : List Value
  pub solves : SolvesList (meant t.checked) t.tree values
  pub in_range : (i : ℕ) → i < length values → IsValue (slice_index_or values i overflow)
  pub held : HoldTheSolution values words
