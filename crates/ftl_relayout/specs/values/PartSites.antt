-- A tree with the tables of its grammar, parts of rules at its nodes, and what they give by the values of a list.
use Rattle.std.specs.Prelude.{◌≡◌, ℕ, ◌<◌, ◌≤◌, true, List, map, length}
use Rattle.std.specs.Option.{IfSome}
use Rattle.ftl_deps.specs.parts.RuleParts.{read_meant}
use Rattle.ftl_deps.specs.reads.Meant.{meant}
use Rattle.ftl_step_value.specs.limits.reads.ReadTables.{AreTables, IsSound}
use Rattle.ftl_meaning.specs.faults.Checked.{CheckedGrammar}
use Rattle.ftl_meaning.specs.grammars.Meaning.{sight}
use Rattle.ftl_model.specs.layout.AttributeGrammar.{Occurrence, reads_in}
use Rattle.ftl_model.specs.layout.Path.{node_at}
use Rattle.ftl_model.specs.layout.Solves.{seen_from}
use Rattle.ftl_model.specs.layout.Table.{value_in}
use Rattle.ftl_model.specs.layout.Tree.{size}
use Rattle.ftl_model.specs.layout.Values.{Value}
use Rattle.ftl_order.specs.orders.Lawful.{EachMay}
use Rattle.ftl_step_value.specs.cells.Seen.{IsThere}
use Rattle.ftl_step_value.specs.value.StepValue.{IsCodeFor}
use Rattle.ftl_tree.specs.trees.CheckedTree.{CheckedTree}
use Rattle.ftl_visit.specs.compiled.RuleCode.{Compiled, code_at}
use Rattle.ftl_visit.specs.declared.compiled.part.Part.{Part}
use Rattle.ftl_visit.specs.rule_code.Depth.{depth_of}
use Rattle.ftl_visit.specs.rule_values.PartValues.{IsRuleOf, has_part, meant_rule, part_of, part_value}
use Rattle.ftl_visit.specs.rule_values.Runs.{CountedCode}
use Rattle.ftl_visit.specs.step_reads.StepReads.{kids_in}
use Rattle.ftl_relayout.specs.declared.values.sites.Buffers.{Buffers}
use Rattle.ftl_relayout.specs.declared.values.sites.PartReads.{PartReads}
use Rattle.ftl_relayout.specs.declared.values.sites.Site.{Site}

-- the tables are those of the tree's grammar
pub record IsSite (x : Site) : Type 0 where
  pub sound : IsSound (meant x.tree.now.checked)
  pub tables : AreTables (meant x.tree.now.checked) x.tables.now

-- the value of an occurrence, seen from a node
abbrev pub value_at : CheckedTree → (values : List Value) → (node : ℕ) → Occurrence → Value
value_at t values node o = value_in (meant t.checked) t.tree values (seen_from (node_at t.tree node) o)

-- the room is enough for the code of each part
abbrev pub IsRoomFor : Compiled → (room : ℕ) → Type 0
IsRoomFor p room = (rule : ℕ) (which : Part) → IfSome (code_at p rule which) (λ code. depth_of code ≤ room)

-- a runner has the code of the grammar, and there is room for what it reads and for what it runs on
pub record CanRun (c : CheckedGrammar) (r : CountedCode) (b : Buffers) : Type 0 where
  pub code : IsCodeFor c r.programs
  pub room : IsRoomFor r.programs b.stack.room
  pub reads : 256 ≤ length b.reads.items

-- the step's rule has the part, these are its reads, no more than 256, and what they are of is there
pub record IsPartOf (t : CheckedTree) (x : PartReads) : Type 0 where
  pub node : x.step.node < size t.tree
  pub rule : IsRuleOf t.checked x.step.rule
  pub has : has_part (meant_rule t.checked x.step.rule).parts (part_of x.part) ≡ true
  pub reads : reads_in (meant_rule t.checked x.step.rule).parts (part_of x.part) ≡ map read_meant x.reads.now
  pub there : EachMay (IsThere t x.step.node x.at_hand) (map read_meant x.reads.now)
  pub few : length x.reads.now ≤ 256

-- what a part gives, by what a fold has so far
abbrev pub part_gives : CheckedTree → (values : List Value) → PartReads → (so_far : Value) → Value
part_gives t values x so_far =
    part_value t.checked x.step.rule (part_of x.part)
    (sight (kids_in t x.step.node) x.at_hand (value_at t values x.step.node) so_far)
