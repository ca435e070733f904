-- Which instance a step computes, and which steps there are at a tree.
use Rattle.std.specs.Prelude.{◌≡◌, ℕ, ◌<◌, length, slice_index_or}
use Rattle.ftl_model.specs.layout.AttributeGrammar.{AttributeGrammar, RuleName, for_child, for_self}
use Rattle.ftl_model.specs.layout.Path.{Path, class_at, down, kids_at, node_at}
use Rattle.ftl_model.specs.layout.Solves.{Instance, instance_of}
use Rattle.ftl_model.specs.layout.Tree.{Forest, size}
use Rattle.ftl_order.specs.orders.Lawful.{class_of_rule}
use Rattle.ftl_order.specs.declared.steps.step.Step.{Step}

-- the rule of this number
abbrev pub rule_at : AttributeGrammar → (rule : ℕ) → RuleName
rule_at g r = slice_index_or g.rules r (for_self 0 0)

-- the instance that a rule gives its value to that runs at a node for the kid of this number
abbrev pub target_of_rule : Path → RuleName → (kid : ℕ) → Instance
target_of_rule p (for_self class a) k = instance_of p a
target_of_rule p (for_child class c a) k = instance_of (down c k p) a

-- the instance that a step computes
abbrev pub target_of : AttributeGrammar → Forest → Step → Instance
target_of g t x = target_of_rule (node_at t x.node) (rule_at g x.rule) x.kid

-- the node has this kid in the rule's child; a rule for the node itself is for no kid
abbrev pub IsKidFor : Forest → Path → RuleName → (kid : ℕ) → Type 0
IsKidFor t p (for_self class a) k = k ≡ 0
IsKidFor t p (for_child class c a) k = k < kids_at t p c

-- the step is of a rule of the grammar, at a node of the tree whose class has it, for a kid that is there
pub record IsStepOf (g : AttributeGrammar) (t : Forest) (x : Step) : Type 0 where
  pub node : x.node < size t
  pub rule : x.rule < length g.rules
  pub class : class_of_rule (rule_at g x.rule) ≡ class_at t (node_at t x.node)
  pub kid : IsKidFor t (node_at t x.node) (rule_at g x.rule) x.kid
