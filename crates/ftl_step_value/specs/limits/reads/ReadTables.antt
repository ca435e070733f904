-- The tables by which what instances read is counted.
use Rattle.std.specs.Prelude.{◌≡◌, ℕ, map, slice_index_or}
use Rattle.ftl_model.specs.layout.AttributeGrammar.{AttributeGrammar, RuleName, attributes_of, for_self}
use Rattle.ftl_model.specs.layout.Path.{class_at, node_at}
use Rattle.ftl_model.specs.layout.Solves.{Instance, instance_of}
use Rattle.ftl_order.specs.orders.Lawful.{IsLawful}
use Rattle.ftl_meaning.specs.lawful.Limits.{IsWithinLimits}
use Rattle.ftl_deps.specs.parts.RuleParts.{all_parts, parts_meant}
use Rattle.ftl_visit.specs.rule_tables.RuleTables.{by_number, kid_rules, own_rules}
use Rattle.ftl_tree.specs.trees.CheckedTree.{CheckedTree}
use Rattle.ftl_step_value.specs.declared.limits.reads.tables.ReadTables.{ReadTables}

-- a lawful grammar, within the limits on counts
pub record IsSound (g : AttributeGrammar) : Type 0 where
  pub law : IsLawful g
  pub limits : IsWithinLimits g

-- the tables are those of the grammar
pub record AreTables (g : AttributeGrammar) (t : ReadTables) : Type 0 where
  pub own : t.rules.own ≡ own_rules g
  pub kids : t.rules.kids ≡ kid_rules g
  pub parts : map parts_meant t.parts ≡ all_parts g
  pub attributes : t.attributes ≡ by_number (attributes_of g) g.class_count

-- the rule of this number
abbrev pub rule_at : AttributeGrammar → (rule : ℕ) → RuleName
rule_at g r = slice_index_or g.rules r (for_self 0 0)

-- the class of the node of this number
abbrev pub class_in : CheckedTree → (node : ℕ) → ℕ
class_in t node = class_at t.tree (node_at t.tree node)

-- an attribute of the node of this number
abbrev pub instance_in : CheckedTree → (node attribute : ℕ) → Instance
instance_in t node a = instance_of (node_at t.tree node) a
