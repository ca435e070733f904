-- A tree with the tables and the code of its rules, and parts of rules at its nodes.
use Rattle.std.specs.Prelude.{◌≡◌, ℕ, ◌<◌, true, List, Contains, length, map, slice_index}
use Rattle.ftl_deps.specs.parts.RuleParts.{read_meant}
use Rattle.ftl_deps.specs.reads.Meant.{meant}
use Rattle.ftl_step_value.specs.limits.reads.ReadTables.{AreTables, IsSound, class_in, instance_in}
use Rattle.ftl_model.specs.layout.AttributeGrammar.{reads_in}
use Rattle.ftl_model.specs.layout.Solves.{Instance, IsInstance}
use Rattle.ftl_model.specs.layout.Table.{instance_count, instance_number}
use Rattle.ftl_model.specs.layout.Tree.{size}
use Rattle.ftl_order.specs.orders.Lawful.{EachMay, OfClass}
use Rattle.ftl_order.specs.orders.Reads.{EndsWithin}
use Rattle.ftl_step_value.specs.cells.Seen.{IsThere}
use Rattle.ftl_step_value.specs.neighbours.NeighbourParts.{AreNeighbourParts}
use Rattle.ftl_step_value.specs.value.RuleCopies.{AreCopies}
use Rattle.ftl_step_value.specs.value.StepValue.{IsCodeFor}
use Rattle.ftl_tree.specs.trees.CheckedTree.{CheckedTree}
use Rattle.ftl_visit.specs.rule_values.PartValues.{IsRuleOf, has_part, meant_rule, part_of}
use Rattle.ftl_demand.specs.declared.demand.waiting.NodeAttr.{NodeAttr}
use Rattle.ftl_demand.specs.declared.demand.waiting.PartReads.{PartReads}
use Rattle.ftl_demand.specs.declared.demand.waiting.Site.{Site}
use Rattle.ftl_demand.specs.demand.Words.{AreWordsSoFar}

-- the tables and the code are those of the tree's grammar
pub record IsSite (x : Site) : Type 0 where
  pub sound : IsSound (meant x.tree.now.checked)
  pub tables : AreTables (meant x.tree.now.checked) x.tables.now
  pub copies : AreCopies x.tree.now.checked x.copies.now
  pub neighbours : AreNeighbourParts x.tree.now.checked x.neighbours.now
  pub code : IsCodeFor x.tree.now.checked x.programs.now

-- the instance that an attribute of a node is
abbrev pub instance_at : CheckedTree → NodeAttr → Instance
instance_at t x = instance_in t x.node x.attr

-- the node is there, and its class has the attribute
pub record IsAttr (t : CheckedTree) (x : NodeAttr) : Type 0 where
  pub node : x.node < size t.tree
  pub attr : OfClass (meant t.checked) (class_in t x.node) x.attr

-- the step's rule has the part, these are its reads, and what they are of is there
pub record IsPartOf (t : CheckedTree) (x : PartReads) : Type 0 where
  pub node : x.step.node < size t.tree
  pub rule : IsRuleOf t.checked x.step.rule
  pub has : has_part (meant_rule t.checked x.step.rule).parts (part_of x.part) ≡ true
  pub reads : reads_in (meant_rule t.checked x.step.rule).parts (part_of x.part) ≡ map read_meant x.reads.now
  pub there : EachMay (IsThere t x.step.node x.at_hand) (map read_meant x.reads.now)

-- ---- words

-- the words of the tree's instances so far
abbrev pub AreWordsOf : CheckedTree → (words : List ℕ) → Type 0
AreWordsOf t words = AreWordsSoFar (meant t.checked) t.tree words

-- the word of an instance; 0 where it is not there yet
abbrev pub word_at : CheckedTree → (words : List ℕ) → Instance → ℕ
word_at t words i = slice_index words (instance_number (meant t.checked) t.tree i)

-- each of some cells has its place among the words
abbrev pub HaveWords : (words : List ℕ) → (cells : List ℕ) → Type 0
HaveWords words cells = (cell : ℕ) → Contains cells cell → cell < length words

-- each chain of reads has fewer reads than the tree has instances
abbrev pub HasShortChains : CheckedTree → Type 0
HasShortChains t =
    (i : Instance) → IsInstance (meant t.checked) t.tree i
    → EndsWithin (meant t.checked) t.tree (instance_count (meant t.checked) t.tree) i
