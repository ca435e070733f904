-- The equations of a tree (Knuth 1968), and what it is for a table of values to solve them. It knows no pass, visit,
-- order or thread.
use Rattle.std.specs.Prelude.{◌≡◌, ℕ, Contains}
use Rattle.ftl_model.specs.layout.Values.{Value}
use Rattle.ftl_model.specs.layout.Tree.{Forest}
use Rattle.ftl_model.specs.layout.Path.{Path, top, down, Has, class_at, inputs_at, kids_at}
use Rattle.ftl_model.specs.layout.AttributeGrammar.{AttributeGrammar, Rule, Occurrence, own, kid, RuleName, for_self}
use Rattle.ftl_model.specs.layout.AttributeGrammar.{for_child, Sort, input, inherited, synthesized, local, attributes_of}
use Rattle.ftl_model.specs.layout.AttributeGrammar.{input_value}

-- one attribute of one node
pub record Instance : Type 0 where
  pub node : Path
  pub attribute : ℕ

-- this attribute of this node
abbrev pub instance_of : Path → ℕ → Instance
instance_of p a = record { node = p; attribute = a }

-- an attribute that a node of the tree has
abbrev pub IsInstance : AttributeGrammar → Forest → Instance → Type 0
IsInstance g t i = Has t i.node × Contains (attributes_of g (class_at t i.node)) i.attribute

-- the instance that a node sees as this occurrence
abbrev pub seen_from : Path → Occurrence → Instance
seen_from p (own a) = instance_of p a
seen_from p (kid c k a) = instance_of (down c k p) a

-- The node whose class has the rule: for an inherited attribute the parent, else the node itself.
abbrev pub rule_node : Sort → Path → Path
rule_node inherited (down c k p) = p
rule_node inherited top = top
rule_node input p = p
rule_node synthesized p = p
rule_node local p = p

-- the number of the kid that the rule is for; 0 where it is for the node itself
abbrev pub rule_kid : Sort → Path → ℕ
rule_kid inherited (down c k p) = k
rule_kid inherited top = 0
rule_kid input p = 0
rule_kid synthesized p = 0
rule_kid local p = 0

-- the rule that defines an attribute of this sort at a node, by its name
abbrev pub rule_name : Forest → Sort → Path → ℕ → RuleName
rule_name t inherited (down c k p) a = for_child (class_at t p) c a
rule_name t inherited top a = for_self (class_at t top) a
rule_name t input p a = for_self (class_at t p) a
rule_name t synthesized p a = for_self (class_at t p) a
rule_name t local p a = for_self (class_at t p) a

-- the rule of a name
abbrev pub rule_named : AttributeGrammar → RuleName → Rule
rule_named g (for_self class a) = g.self_rule class a
rule_named g (for_child class c a) = g.child_rule class c a

-- the rule that defines an attribute of this sort at a node
abbrev pub rule_of : AttributeGrammar → Forest → Sort → Path → ℕ → Rule
rule_of g t inherited (down c k p) a = g.child_rule (class_at t p) c a
rule_of g t inherited top a = g.self_rule (class_at t top) a
rule_of g t input p a = g.self_rule (class_at t p) a
rule_of g t synthesized p a = g.self_rule (class_at t p) a
rule_of g t local p a = g.self_rule (class_at t p) a

-- the value that a rule gives at a node, for the kid of this number, by the values of the table
abbrev pub rule_value : Forest → (Instance → Value) → Rule → Path → (number : ℕ) → Value
rule_value t s rule p k = rule.value (kids_at t p) k (λ o. s (seen_from p o))

-- the right side of an instance's equation: the document's number for an input, else the value of its rule
abbrev pub equation_value : AttributeGrammar → Forest → (Instance → Value) → Sort → Path → ℕ → Value
equation_value g t s input p a = input_value g (class_at t p) a (inputs_at t p)
equation_value g t s inherited p a = rule_value t s (rule_of g t inherited p a) (rule_node inherited p)
    (rule_kid inherited p)
equation_value g t s synthesized p a = rule_value t s (rule_of g t synthesized p a) p 0
equation_value g t s local p a = rule_value t s (rule_of g t local p a) p 0

-- each instance has the value that its equation gives
abbrev pub Solves : AttributeGrammar → Forest → (Instance → Value) → Type 0
Solves g t s = (i : Instance) → IsInstance g t i → s i ≡ equation_value g t s (g.sort i.attribute) i.node i.attribute
