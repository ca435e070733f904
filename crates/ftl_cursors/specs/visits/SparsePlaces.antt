-- What is left at a place of a cursor that goes by blocks: the steps of a block, and the blocks after it.
use Rattle.std.specs.Prelude.{◌+◌, ◌≤◌, List, ◌++◌}
use Rattle.ftl_model.specs.layout.Tree.{size}
use Rattle.ftl_order.specs.declared.steps.step.Step.{Step}
use Rattle.ftl_cursors.specs.classes.ClassSets.{AreClassBlocks, HasVisited}
use Rattle.ftl_cursors.specs.visits.NodeRanges.{nodes_in}
use Rattle.ftl_cursors.specs.visits.Places.{AreTables, grammar_of, tree_of}
use Rattle.ftl_cursors.specs.visits.VisitSteps.{steps_of_nodes}
use Rattle.ftl_cursors.specs.declared.visits.nodes.NodeRange.{NodeRange}
use Rattle.ftl_cursors.specs.declared.visits.sparse_place.SparseTables.{SparseTables}

-- the blocks are those of the tree, and the set has each class with operations
pub record AreSparseTables (x : SparseTables) : Type 0 where
  pub all : AreTables x.all
  pub blocks : AreClassBlocks (tree_of x.all) x.blocks.now
  pub visited : HasVisited x.visited x.all.visits.now

-- the nodes are there
abbrev pub AreWithin : SparseTables → NodeRange → Type 0
AreWithin x nodes = nodes.first + nodes.count ≤ size (tree_of x.all)

-- the steps of the visits of a range
abbrev pub range_steps : SparseTables → NodeRange → List Step
range_steps x nodes =
    steps_of_nodes (grammar_of x.all) (tree_of x.all) x.all.visits.now (nodes_in x.all.order nodes.first nodes.count)

-- the steps that are left
abbrev pub sparse_left : SparseTables → NodeRange → (steps : List Step) → List Step
sparse_left x nodes steps = steps ++ range_steps x nodes
