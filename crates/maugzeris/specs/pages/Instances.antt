-- The instances of a page by number, the rules that compute them, and what they read.
use Rattle.std.specs.Prelude.{◌≡◌, ℕ, ◌<◌, List, map, slice_index_or, Option, Some, None}
use Rattle.std.specs.Option.{option_or}
use Rattle.ftl_deps.specs.reads.Meant.{meant}
use Rattle.ftl_model.specs.layout.AttributeGrammar.{AttributeGrammar}
use Rattle.ftl_model.specs.layout.Path.{Path, class_at, down, node_at, number_of, top}
use Rattle.ftl_model.specs.layout.Solves.{Instance, instance_of}
use Rattle.ftl_model.specs.layout.Table.{instance_count, instance_number, instances}
use Rattle.ftl_model.specs.layout.Tree.{Forest}
use Rattle.ftl_order.specs.orders.Reads.{reads_of}
use Rattle.ftl_order.specs.steps.Steps.{IsStepOf, target_of}
use Rattle.ftl_order.specs.declared.steps.step.Step.{Step}
use Rattle.ftl_visit.specs.visits.Visits.{rule_number}
use Rattle.maugzeris.specs.pages.PageState.{PageState}

-- ---- instances by number

-- a number below the count of instances
abbrev pub IsInstanceOn : PageState → (number : ℕ) → Type 0
IsInstanceOn p i = i < instance_count (meant p.checked) p.tree

-- the instance of this number; past the end one that no page has
abbrev pub instance_on : PageState → (number : ℕ) → Instance
instance_on p i = slice_index_or (instances (meant p.checked) p.tree) i (instance_of top 0)

-- the number of its node
abbrev pub node_of : PageState → (number : ℕ) → ℕ
node_of p i = number_of p.tree (instance_on p i).node

-- its attribute
abbrev pub attribute_of : PageState → (number : ℕ) → ℕ
attribute_of p i = (instance_on p i).attribute

-- the number of the instance that an attribute of a node is
abbrev pub number_on : PageState → (node attribute : ℕ) → ℕ
number_on p n a = instance_number (meant p.checked) p.tree (instance_of (node_at p.tree n) a)

-- ---- rules and reads

-- the rule of the class above a node for an attribute of the kids among which it stands; none above the root
abbrev pub rule_above : AttributeGrammar → Forest → Path → (attribute : ℕ) → Option ℕ
rule_above g t top a = None
rule_above g t (down child kid above) a = rule_number g (class_at t above) (Some child) a

-- the rule that computes an attribute of a node, by number: one of the node's own class, or one of the class above;
-- none of an input
abbrev pub rule_at_node : AttributeGrammar → Forest → Path → (attribute : ℕ) → Option ℕ
rule_at_node g t node a = option_or (rule_number g (class_at t node) None a) (rule_above g t node a)

-- the rule that computes an instance
abbrev pub rule_on : PageState → (number : ℕ) → Option ℕ
rule_on p i = rule_at_node (meant p.checked) p.tree (instance_on p i).node (instance_on p i).attribute

-- the numbers of the instances that an instance reads, in the order of the text, each as often as it is read
abbrev pub reads_on : PageState → (number : ℕ) → List ℕ
reads_on p i = map (instance_number (meant p.checked) p.tree) (reads_of (meant p.checked) p.tree (instance_on p i))

-- the step is one of the tree, and computes this attribute of the node
pub record Computes (p : PageState) (node attribute : ℕ) (x : Step) : Type 0 where
  pub step : IsStepOf (meant p.checked) p.tree x
  pub target : target_of (meant p.checked) p.tree x ≡ instance_of (node_at p.tree node) attribute
  pub rule : rule_at_node (meant p.checked) p.tree (node_at p.tree node) attribute ≡ Some x.rule
