-- Rows of one tree.
use Rattle.std.specs.Prelude.{◌≡◌, ℕ, List}
use Rattle.std.specs.List.{All}
use Rattle.ftl_tree.specs.trees.CheckedTree.{CheckedTree}
use Rattle.ftl_cursors.specs.declared.items.columns.ItemRows.{ItemRows}

-- the rows are of this tree, with items of at most so many nodes but for the trees of hosts
pub record IsOfTree (t : CheckedTree) (grain : ℕ) (rows : ItemRows) : Type 0 where
  pub tree : rows.tree.now ≡ t
  pub grain_is : rows.grain ≡ grain

-- so are all of these
abbrev pub AreOfTree : CheckedTree → (grain : ℕ) → List ItemRows → Type 0
AreOfTree t grain rows = All (IsOfTree t grain) rows
