-- The steps of visits: node by node, operation by operation, kid by kid.
use Rattle.std.specs.Prelude.{◌≡◌, ℕ, ◌-◌, ◌<◌, List, [], ◌++◌, flat_map, length, map, slice_index_or, Contains}
use Rattle.std.specs.List.{range_with_len}
use Rattle.ftl_model.specs.layout.AttributeGrammar.{AttributeGrammar, RuleName, for_child, for_self}
use Rattle.ftl_model.specs.layout.Path.{Path, class_at, kids_at, node_at}
use Rattle.ftl_model.specs.layout.Tree.{Forest}
use Rattle.ftl_order.specs.steps.Steps.{rule_at}
use Rattle.ftl_order.specs.declared.steps.step.Step.{Step}
use Rattle.ftl_visit.specs.declared.visits.visit_op.VisitOp.{VisitOp}
use Rattle.ftl_visit.specs.declared.visits.visit_op.VisitOp.TheVariants.{Rule, Begin, Visit}

-- the step of a rule at a node for the kid of this number
abbrev pub step : (node rule kid : ℕ) → Step
step n r k = record { node = n; rule = r; kid = k }

-- how often a rule runs at a node: once for the node itself, or once for each kid of its child
abbrev pub turns : Forest → Path → RuleName → ℕ
turns t p (for_self class a) = 1
turns t p (for_child class c a) = kids_at t p c

-- the steps of a rule at a node, from the first kid to the last
abbrev pub steps_of_rule : AttributeGrammar → Forest → (node rule : ℕ) → List Step
steps_of_rule g t n r = map (step n r) (range_with_len 0 (turns t (node_at t n) (rule_at g r)))

-- those of an operation
abbrev pub steps_of_op : AttributeGrammar → Forest → (node : ℕ) → VisitOp → List Step
steps_of_op g t n (Rule r) = steps_of_rule g t n r
steps_of_op g t n (Begin c) = []
steps_of_op g t n (Visit c) = []

-- the operations at a node, by the visits of the classes
abbrev pub ops_at : Forest → (visits : List (List VisitOp)) → (node : ℕ) → List VisitOp
ops_at t visits n = slice_index_or visits (class_at t (node_at t n)) []

-- the steps of the visit of a node
abbrev pub steps_of_visit : AttributeGrammar → Forest → (visits : List (List VisitOp)) → (node : ℕ) → List Step
steps_of_visit g t visits n = flat_map (steps_of_op g t n) (ops_at t visits n)

-- those of the visits of some nodes
abbrev pub steps_of_nodes : AttributeGrammar → Forest → (visits : List (List VisitOp)) → (nodes : List ℕ) → List Step
steps_of_nodes g t visits nodes = flat_map (steps_of_visit g t visits) nodes

-- the steps of the kids of a rule from this one on, then of these operations at the same node, then of these nodes
abbrev pub rest_of : AttributeGrammar → Forest → (visits : List (List VisitOp)) → (node rule kid kid_end : ℕ)
    → (ops : List VisitOp) → (nodes : List ℕ) → List Step
rest_of g t visits n r kid kid_end ops nodes =
    map (step n r) (range_with_len kid (kid_end - kid))
    ++ (flat_map (steps_of_op g t n) ops ++ steps_of_nodes g t visits nodes)

-- ---- which operations a class may have

-- the rule is for the nodes of a class, or for the kids in a child that the class has
abbrev pub IsRuleOf : AttributeGrammar → (class : ℕ) → RuleName → Type 0
IsRuleOf g class (for_self k a) = k ≡ class
IsRuleOf g class (for_child k c a) = (k ≡ class) × (c < g.child_count class)

-- the operation is a rule of the class, or at a child that it has
abbrev pub IsOpOf : AttributeGrammar → (class : ℕ) → VisitOp → Type 0
IsOpOf g class (Rule r) = (r < length g.rules) × IsRuleOf g class (rule_at g r)
IsOpOf g class (Begin c) = c < g.child_count class
IsOpOf g class (Visit c) = c < g.child_count class

-- each class has a visit, of such operations
pub record AreVisits (g : AttributeGrammar) (visits : List (List VisitOp)) : Type 0 where
  pub count : length visits ≡ g.class_count
  pub ops : (class : ℕ) → class < g.class_count
      → (op : VisitOp) → Contains (slice_index_or visits class []) op → IsOpOf g class op
