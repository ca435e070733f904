-- A cursor over what a step reads: the reads at hand, and how often a fold takes its step after them.
use Rattle.std.specs.Prelude.{ℕ, ◌+◌, ◌<◌, ◌≤◌, List, ◌++◌, drop, flat_map, map}
use Rattle.std.specs.List.{range_with_len}
use Rattle.ftl_model.specs.layout.AttributeGrammar.{Occurrence, Read, seen_by}
use Rattle.ftl_model.specs.layout.Tree.{size}
use Rattle.ftl_order.specs.orders.Lawful.{EachMay}
use Rattle.ftl_deps.specs.parts.RuleParts.{read_meant}
use Rattle.ftl_visit.specs.step_reads.StepReads.{kids_in}
use Rattle.ftl_tree.specs.trees.CheckedTree.{CheckedTree}
use Rattle.ftl_step_value.specs.cells.Seen.{IsThere, cell_seen}
use Rattle.ftl_step_value.specs.declared.cells.cursor.StepReads.TheInside.{Inside}

-- what some reads are of while this kid is at hand, and then those of a step at so many kids from the next one on
abbrev pub seen_from_here : CheckedTree → (node at_hand : ℕ) → (reads step : List Read) → (next kids : ℕ)
    → List Occurrence
seen_from_here t node k reads step next n =
    seen_by (kids_in t node) k reads
    ++ flat_map (λ kid. seen_by (kids_in t node) kid step) (range_with_len next n)

-- all that is there
pub record IsThereFromHere (t : CheckedTree) (node at_hand : ℕ) (reads step : List Read) (next kids : ℕ) : Type 0 where
  pub node_known : node < size t.tree
  pub here : EachMay (IsThere t node at_hand) reads
  pub later : (kid : ℕ) → next ≤ kid → kid < next + kids → EachMay (IsThere t node kid) step
  pub few : next + kids < 4294967296

-- the reads at hand that are left
abbrev pub reads_left : Inside → List Read
reads_left c = map read_meant (drop c.place c.reads.now)

-- the cells that are left
abbrev pub cells_left : Inside → List ℕ
cells_left c =
    map (cell_seen c.tree.now c.node)
    (seen_from_here c.tree.now c.node c.at_hand (reads_left c) (map read_meant c.step.now) c.next_kid c.kids_left)

-- what is left is there
abbrev pub IsCursor : Inside → Type 0
IsCursor c =
    IsThereFromHere c.tree.now c.node c.at_hand (reads_left c) (map read_meant c.step.now) c.next_kid c.kids_left
