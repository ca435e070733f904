-- The visit of a class in a pass, as a list: the numbers of its rules in the order in which they run, and in an inorder
-- pass the visits of its kids between them. The key of a rule is the place of its target's attribute in the pass's
-- list, and then the place of its child among the children.
use Rattle.std.specs.Prelude.{ℕ, List, [], ◌∷◌, ◌++◌, flat_map, Option, Some, None}
use Rattle.std.specs.List.{position, range_with_len}
use Rattle.std.specs.Option.{option_map, option_to_list}
use Rattle.ftl_model.specs.layout.AttributeGrammar.{AttributeGrammar, Sort, inherited, input, local, synthesized}
use Rattle.ftl_order.specs.dependencies.Writers.{is_of_class}
use Rattle.ftl_schedule.specs.declared.syntax.kind.PassKind.{PassKind}
use Rattle.ftl_schedule.specs.declared.syntax.kind.PassKind.TheVariants.{TopDown, BottomUp, InOrder}
use Rattle.ftl_visit.specs.declared.visits.visit_op.VisitOp.{VisitOp}
use Rattle.ftl_visit.specs.declared.visits.visit_op.VisitOp.TheVariants.{Rule, Begin, Visit}

-- the number of the class's rule for an attribute, of the node itself or of the kids in a child: its place among all
-- rules; none where the class has no such rule
abbrev pub rule_number : AttributeGrammar → (class : ℕ) → (child : Option ℕ) → (attribute : ℕ) → Option ℕ
rule_number g class child a = position (is_of_class class child a) g.rules

-- that rule, where there is one
abbrev pub rule_in : AttributeGrammar → (class : ℕ) → (child : Option ℕ) → (attribute : ℕ) → List VisitOp
rule_in g class child a = option_to_list (option_map Rule (rule_number g class child a))

-- the numbers of the children of a class, in the order of their declaration
abbrev pub children : AttributeGrammar → (class : ℕ) → List ℕ
children g class = range_with_len 0 (g.child_count class)

-- ---- topdown and bottomup

-- the rules of a class for an attribute of this sort: for the node itself, or for the kids of each child in turn
abbrev pub operations_for : AttributeGrammar → (class : ℕ) → Sort → (attribute : ℕ) → List VisitOp
operations_for g class input a = []
operations_for g class inherited a = flat_map (λ c. rule_in g class (Some c) a) (children g class)
operations_for g class synthesized a = rule_in g class None a
operations_for g class local a = rule_in g class None a

-- the rules of a class for the attributes of a list, by key
abbrev pub rules_by_key : AttributeGrammar → (class : ℕ) → (attributes : List ℕ) → List VisitOp
rules_by_key g class attributes = flat_map (λ a. operations_for g class (g.sort a) a) attributes

-- ---- inorder

-- the rule for a local of the node; none for an attribute of another sort
abbrev pub local_rule : AttributeGrammar → (class : ℕ) → Sort → (attribute : ℕ) → List VisitOp
local_rule g class input a = []
local_rule g class inherited a = []
local_rule g class synthesized a = []
local_rule g class local a = rule_in g class None a

-- the rule for a synthesized attribute of the node
abbrev pub synthesized_rule : AttributeGrammar → (class : ℕ) → Sort → (attribute : ℕ) → List VisitOp
synthesized_rule g class input a = []
synthesized_rule g class inherited a = []
synthesized_rule g class synthesized a = rule_in g class None a
synthesized_rule g class local a = []

-- the rule for an inherited attribute of the kids in a child
abbrev pub inherited_rule : AttributeGrammar → (class child : ℕ) → Sort → (attribute : ℕ) → List VisitOp
inherited_rule g class c input a = []
inherited_rule g class c inherited a = rule_in g class (Some c) a
inherited_rule g class c synthesized a = []
inherited_rule g class c local a = []

-- the locals of the node, by key
abbrev pub locals : AttributeGrammar → (class : ℕ) → (attributes : List ℕ) → List VisitOp
locals g class attributes = flat_map (λ a. local_rule g class (g.sort a) a) attributes

-- the synthesized attributes of the node, by key
abbrev pub synthesized_rules : AttributeGrammar → (class : ℕ) → (attributes : List ℕ) → List VisitOp
synthesized_rules g class attributes = flat_map (λ a. synthesized_rule g class (g.sort a) a) attributes

-- the inherited attributes of the kids in a child, by key
abbrev pub inherited_rules : AttributeGrammar → (class child : ℕ) → (attributes : List ℕ) → List VisitOp
inherited_rules g class c attributes = flat_map (λ a. inherited_rule g class c (g.sort a) a) attributes

-- what is done for each kid of a child: its inherited attributes, and then its visit
abbrev pub child_block : AttributeGrammar → (class : ℕ) → (attributes : List ℕ) → (child : ℕ) → List VisitOp
child_block g class attributes c = Begin c ∷ (inherited_rules g class c attributes ++ Visit c ∷ [])

-- the blocks of all children
abbrev pub child_blocks : AttributeGrammar → (class : ℕ) → (attributes : List ℕ) → List VisitOp
child_blocks g class attributes = flat_map (child_block g class attributes) (children g class)

-- ---- the visit

-- the visit of a class in a pass of this kind with this list of attributes
abbrev pub visit_of : AttributeGrammar → PassKind → (attributes : List ℕ) → (class : ℕ) → List VisitOp
visit_of g TopDown attributes class = rules_by_key g class attributes
visit_of g BottomUp attributes class = rules_by_key g class attributes
visit_of g InOrder attributes class =
    (locals g class attributes ++ child_blocks g class attributes) ++ synthesized_rules g class attributes
