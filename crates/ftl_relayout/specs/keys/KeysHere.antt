-- What is asked of a tree and a schedule so that instances have keys.
use Rattle.std.specs.Prelude.{ℕ, ◌<◌, Contains}
use Rattle.ftl_model.specs.layout.AttributeGrammar.{attributes_of}
use Rattle.ftl_model.specs.layout.Path.{class_at, node_at}
use Rattle.ftl_model.specs.layout.Tree.{size}
use Rattle.ftl_order.specs.orders.Schedule.{Placing, placing_of}
use Rattle.ftl_schedule.specs.stages.Stages.{stages_of}
use Rattle.ftl_schedule.specs.declared.stages.types.Schedule.{Schedule}
use Rattle.ftl_deps.specs.reads.Meant.{meant}
use Rattle.ftl_tree.specs.trees.CheckedTree.{CheckedTree}

-- where the attributes stand
abbrev pub placing : Schedule → Placing
placing s = placing_of (stages_of s)

-- an attribute of a node of the tree
pub record IsAttributeOf (t : CheckedTree) (node attribute : ℕ) : Type 0 where
  pub node_known : node < size t.tree
  pub attribute_known : Contains (attributes_of (meant t.checked) (class_at t.tree (node_at t.tree node))) attribute
  pub counted : attribute < (meant t.checked).attribute_count
