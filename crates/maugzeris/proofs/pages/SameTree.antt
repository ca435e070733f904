-- The tree of a page with its grammar.
use Rattle.std.proofs.Common.{◌≡◌, ap}
use Rattle.ftl_meaning.specs.faults.Checked.{CheckedGrammar}
use Rattle.ftl_model.specs.layout.Tree.{Forest}
use Rattle.ftl_tree.specs.trees.CheckedTree.{CheckedTree}

abbrev with_grammar : Forest → CheckedGrammar → CheckedTree
with_grammar t k = record { checked = k; tree = t }

-- a tree of this grammar is its forest with the grammar
pub same_tree : (t : CheckedTree) (k : CheckedGrammar) → t.checked ≡ k → t ≡ record { checked = k; tree = t.tree }
same_tree t k is = ap (with_grammar t.tree) is
