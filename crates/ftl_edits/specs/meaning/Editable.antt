-- Which edits a tree can take.
use Rattle.std.specs.Prelude.{ℕ, ◌<◌, List, Contains}
use Rattle.std.specs.List.{All}
use Rattle.ftl_model.specs.layout.AttributeGrammar.{class_inputs}
use Rattle.ftl_model.specs.layout.Path.{class_at, node_at}
use Rattle.ftl_model.specs.layout.Tree.{size}
use Rattle.ftl_model.specs.layout.TreeOf.{IsInput}
use Rattle.ftl_deps.specs.reads.Meant.{meant}
use Rattle.ftl_tree.specs.trees.CheckedTree.{CheckedTree}
use Rattle.ftl_edits.specs.declared.meaning.types.Edit.{Edit}

-- the greatest number of an input of the tree
abbrev pub greatest_of : CheckedTree → ℕ
greatest_of t = (meant t.checked).greatest

-- the edit gives an input of a node of the tree a number that an input may have
pub record IsEditOf (t : CheckedTree) (e : Edit) : Type 0 where
  pub node : e.node < size t.tree
  pub input : Contains (class_inputs (meant t.checked) (class_at t.tree (node_at t.tree e.node))) e.attr
  pub value : IsInput (greatest_of t) e.value

-- so does each of these
abbrev pub AreEditsOf : CheckedTree → List Edit → Type 0
AreEditsOf t edits = All (IsEditOf t) edits
