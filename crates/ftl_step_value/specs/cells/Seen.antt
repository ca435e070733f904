-- What a rule reads at a node of a tree, read by read.
use Rattle.std.specs.Prelude.{ℕ, List, Contains}
use Rattle.ftl_model.specs.layout.AttributeGrammar.{Occurrence, Read, occurrences}
use Rattle.ftl_model.specs.layout.Path.{node_at}
use Rattle.ftl_model.specs.layout.Solves.{IsInstance, seen_from}
use Rattle.ftl_model.specs.layout.Table.{instance_number}
use Rattle.ftl_deps.specs.reads.Meant.{meant}
use Rattle.ftl_visit.specs.step_reads.StepReads.{IsOfChildren, children_in, kids_in}
use Rattle.ftl_tree.specs.trees.CheckedTree.{CheckedTree}

-- the cell of what is seen from a node
abbrev pub cell_seen : CheckedTree → (node : ℕ) → Occurrence → ℕ
cell_seen t node o = instance_number (meant t.checked) t.tree (seen_from (node_at t.tree node) o)

-- what is seen from a node is there
abbrev pub IsSeen : CheckedTree → (node : ℕ) → Occurrence → Type 0
IsSeen t node o = IsInstance (meant t.checked) t.tree (seen_from (node_at t.tree node) o)

-- each of some occurrences is there
abbrev pub EachIsSeen : CheckedTree → (node : ℕ) → List Occurrence → Type 0
EachIsSeen t node os = (o : Occurrence) → Contains os o → IsSeen t node o

-- a read at a node, while this kid is at hand, is of what is there
pub record IsThere (t : CheckedTree) (node at_hand : ℕ) (read : Read) : Type 0 where
  pub child : IsOfChildren (children_in t node) read
  pub seen : EachIsSeen t node (occurrences (kids_in t node) at_hand read)
