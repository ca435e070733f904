-- What is left at a place of a cursor: kids of a rule, operations of a node, and nodes.
use Rattle.std.specs.Prelude.{◌≡◌, ℕ, suc, ◌+◌, ◌<◌, ◌≤◌, List, length, map, sum_by, Contains}
use Rattle.ftl_deps.specs.reads.Meant.{meant}
use Rattle.ftl_model.specs.layout.AttributeGrammar.{AttributeGrammar}
use Rattle.ftl_model.specs.layout.Path.{class_at, node_at}
use Rattle.ftl_model.specs.layout.Tree.{Forest, size}
use Rattle.ftl_order.specs.declared.steps.step.Step.{Step}
use Rattle.ftl_visit.specs.declared.visits.visit_op.VisitOp.{VisitOp}
use Rattle.ftl_visit.specs.passes.VisitRows.{target_of}
use Rattle.ftl_cursors.specs.visits.NodeRanges.{nodes_in}
use Rattle.ftl_cursors.specs.visits.VisitSteps.{AreVisits, IsOpOf, ops_at, rest_of}
use Rattle.ftl_cursors.specs.declared.visits.place.Place.{Place}
use Rattle.ftl_cursors.specs.declared.visits.place.Tables.{Tables}

-- the grammar
abbrev pub grammar_of : Tables → AttributeGrammar
grammar_of x = meant x.tree.now.checked

-- the tree
abbrev pub tree_of : Tables → Forest
tree_of x = x.tree.now.tree

-- the visits are of classes of the grammar, and the targets those of its rules
pub record AreTables (x : Tables) : Type 0 where
  pub visits : AreVisits (grammar_of x) x.visits.now
  pub targets : x.targets.now ≡ map target_of (grammar_of x).rules

-- the operation is one of the class of a node
abbrev pub IsOpAt : AttributeGrammar → Forest → (node : ℕ) → VisitOp → Type 0
IsOpAt g t n op = IsOpOf g (class_at t (node_at t n)) op

-- all is of the tree
pub record IsPlace (x : Tables) (at : Place) : Type 0 where
  pub kids : at.kid ≤ at.kid_end
  pub node : at.node < size (tree_of x)
  pub ops : (op : VisitOp) → Contains at.ops.now op → IsOpAt (grammar_of x) (tree_of x) at.node op
  pub nodes : at.nodes.first + at.nodes.count ≤ size (tree_of x)

-- the nodes that are left
abbrev pub nodes_left : Tables → Place → List ℕ
nodes_left x at = nodes_in x.order at.nodes.first at.nodes.count

-- the steps that are left
abbrev pub left : Tables → Place → List Step
left x at =
    rest_of (grammar_of x) (tree_of x) x.visits.now at.node at.rule at.kid at.kid_end at.ops.now (nodes_left x at)

-- how many operations and nodes are left to begin
abbrev pub ops_left : Tables → Place → ℕ
ops_left x at =
    length at.ops.now
    + sum_by (λ n. suc (length (ops_at (tree_of x) x.visits.now n))) (nodes_left x at)
