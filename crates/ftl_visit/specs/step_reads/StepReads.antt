-- How much a rule reads at a node of a tree, by its parts.
use Rattle.std.specs.Prelude.{ℕ, ◌<◌, ◌≤◌, length}
use Rattle.ftl_model.specs.layout.Limits.{most_part_reads}
use Rattle.ftl_model.specs.layout.AttributeGrammar.{Parts, Read, each_read, first_then, fold_over}
use Rattle.ftl_model.specs.layout.AttributeGrammar.{last_read, plain, prev_read, read_occurrences, self_read}
use Rattle.ftl_model.specs.layout.AttributeGrammar.{single_read, this_read}
use Rattle.ftl_model.specs.layout.Path.{class_at, kids_at, node_at}
use Rattle.ftl_order.specs.orders.Lawful.{EachMay}
use Rattle.ftl_deps.specs.reads.Meant.{meant}
use Rattle.ftl_tree.specs.trees.CheckedTree.{CheckedTree}

-- how many kids the node of a number has in a child
abbrev pub kids_in : CheckedTree → (node : ℕ) → (child : ℕ) → ℕ
kids_in t node c = kids_at t.tree (node_at t.tree node) c

-- how many children the class of a node declares
abbrev pub children_in : CheckedTree → (node : ℕ) → ℕ
children_in t node = (meant t.checked).child_count (class_at t.tree (node_at t.tree node))

-- how much a rule with these parts reads that runs at a node for the kid of this number
abbrev pub reads_here : CheckedTree → (node : ℕ) → Parts → (number : ℕ) → ℕ
reads_here t node parts n = length (read_occurrences parts (kids_in t node) n)

-- a read of the last kid is of one of so many children
abbrev pub IsOfChildren : (children : ℕ) → Read → Type 0
IsOfChildren n (self_read a) = Unit {0}
IsOfChildren n (single_read c a) = Unit {0}
IsOfChildren n (each_read c a) = Unit {0}
IsOfChildren n (this_read c a) = Unit {0}
IsOfChildren n (prev_read c a) = Unit {0}
IsOfChildren n (last_read c a) = c < n

-- so are those of the parts, and the child of a fold
abbrev pub AreOfChildren : (children : ℕ) → Parts → Type 0
AreOfChildren n (plain reads) = EachMay (IsOfChildren n) reads
AreOfChildren n (first_then first later) = EachMay (IsOfChildren n) first × EachMay (IsOfChildren n) later
AreOfChildren n (fold_over c start step) = (c < n) × EachMay (IsOfChildren n) start × EachMay (IsOfChildren n) step

-- each part has at most so many reads
abbrev pub HasFewReads : Parts → Type 0
HasFewReads (plain reads) = length reads ≤ most_part_reads
HasFewReads (first_then first later) = (length first ≤ most_part_reads) × (length later ≤ most_part_reads)
HasFewReads (fold_over c start step) = (length start ≤ most_part_reads) × (length step ≤ most_part_reads)

-- the parts may stand in a rule of a node's class
pub record MayStandAt (t : CheckedTree) (node : ℕ) (parts : Parts) : Type 0 where
  pub children : AreOfChildren (children_in t node) parts
  pub few : HasFewReads parts
