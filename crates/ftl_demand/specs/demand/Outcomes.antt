-- What comes of a read, of a part and of a step, by the words that are there.
use Rattle.std.specs.Prelude.{◌≡◌, ℕ, List, Contains, map, slice_index_or}
use Rattle.ftl_deps.specs.parts.RuleParts.{read_meant}
use Rattle.ftl_deps.specs.reads.Meant.{meant}
use Rattle.ftl_meaning.specs.grammars.Meaning.{sight, value_seen}
use Rattle.ftl_model.specs.layout.AttributeGrammar.{Occurrence, Read, occurrences, seen_by}
use Rattle.ftl_model.specs.layout.Path.{node_at}
use Rattle.ftl_model.specs.layout.Solves.{Instance, seen_from}
use Rattle.ftl_model.specs.layout.Table.{value_in}
use Rattle.ftl_model.specs.layout.Values.{Value, overflow}
use Rattle.ftl_order.specs.declared.steps.step.Step.{Step}
use Rattle.ftl_order.specs.orders.Reads.{reads_of}
use Rattle.ftl_order.specs.steps.Steps.{target_of}
use Rattle.ftl_step_value.specs.cells.ReadCells.{filled_cell}
use Rattle.ftl_tree.specs.trees.CheckedTree.{CheckedTree}
use Rattle.ftl_visit.specs.rule_values.PartValues.{part_of, part_value}
use Rattle.ftl_visit.specs.step_reads.StepReads.{kids_in}
use Rattle.ftl_demand.specs.declared.demand.waiting.Given.{Given}
use Rattle.ftl_demand.specs.declared.demand.waiting.Given.TheVariants as given
use Rattle.ftl_demand.specs.declared.demand.waiting.NodeAttr.{NodeAttr}
use Rattle.ftl_demand.specs.declared.demand.waiting.Outcome.{Outcome}
use Rattle.ftl_demand.specs.declared.demand.waiting.Outcome.TheVariants as outcome
use Rattle.ftl_demand.specs.declared.demand.waiting.PartReads.{PartReads}
use Rattle.ftl_demand.specs.demand.Sites.{IsAttr, instance_at, word_at}
use Rattle.ftl_demand.specs.demand.Words.{IsSolution}

-- the instances that some occurrences are, seen from a node
abbrev pub instances_seen : CheckedTree → (node : ℕ) → List Occurrence → List Instance
instances_seen t node os = map (seen_from (node_at t.tree node)) os

-- the value of an occurrence, seen from a node
abbrev pub value_at : CheckedTree → (values : List Value) → (node : ℕ) → Occurrence → Value
value_at t values node o = value_in (meant t.checked) t.tree values (seen_from (node_at t.tree node) o)

-- an attribute that is among these, and whose word is not there yet
pub record IsLacking (t : CheckedTree) (words : List ℕ) (among : List Instance) (x : NodeAttr) : Type 0 where
  pub known : IsAttr t x
  pub read : Contains among (instance_at t x)
  pub none : word_at t words (instance_at t x) ≡ 0

-- what a read gives at a node while this kid is at hand, whatever values solve
abbrev pub IsGiven : CheckedTree → (node at_hand : ℕ) → (words : List ℕ) → Read → Given → Type 0
IsGiven t node k words r (given.Is v) =
    (values : List Value) → IsSolution (meant t.checked) t.tree values
    → v ≡ value_seen (value_at t values node) (occurrences (kids_in t node) k r)
IsGiven t node k words r (given.Lacks x) =
    IsLacking t words (instances_seen t node (occurrences (kids_in t node) k r)) x

-- what a part gives, with what a fold has so far
abbrev pub IsPartOutcome : CheckedTree → (words : List ℕ) → PartReads → (so_far : Value) → Outcome → Type 0
IsPartOutcome t words x so_far (outcome.Done v) =
    (values : List Value) → IsSolution (meant t.checked) t.tree values
    → v ≡ part_value t.checked x.step.rule (part_of x.part)
    (sight (kids_in t x.step.node) x.at_hand (value_at t values x.step.node) so_far)
IsPartOutcome t words x so_far (outcome.Lacks y) =
    IsLacking t words
    (instances_seen t x.step.node (seen_by (kids_in t x.step.node) x.at_hand (map read_meant x.reads.now))) y

-- the value of a cell, whatever values solve
abbrev pub IsValueAt : CheckedTree → (cell : ℕ) → Value → Type 0
IsValueAt t cell v =
    (values : List Value) → IsSolution (meant t.checked) t.tree values → v ≡ slice_index_or values cell overflow

-- the value that a step gives
abbrev pub IsValueOf : CheckedTree → Step → Value → Type 0
IsValueOf t x v = IsValueAt t (filled_cell (meant t.checked) t.tree x) v

-- the values of some cells, whatever values solve
abbrev pub AreValuesAt : CheckedTree → (cells : List ℕ) → List Value → Type 0
AreValuesAt t cells vs =
    (values : List Value) → IsSolution (meant t.checked) t.tree values
    → vs ≡ map (λ cell. slice_index_or values cell overflow) cells

-- what comes of a step
abbrev pub IsStepOutcome : CheckedTree → (words : List ℕ) → Step → Outcome → Type 0
IsStepOutcome t words x (outcome.Done v) = IsValueOf t x v
IsStepOutcome t words x (outcome.Lacks y) =
    IsLacking t words (reads_of (meant t.checked) t.tree (target_of (meant t.checked) t.tree x)) y
