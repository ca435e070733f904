-- Grammars with their names gone that agree number by number.
use Rattle.std.specs.Prelude.{◌≡◌, ℕ, ◌<◌, Contains}
use Rattle.ftl_model.specs.layout.AttributeGrammar.{AttributeGrammar, Occurrence, Rule, RuleName}
use Rattle.ftl_model.specs.layout.Boxes.{Names}
use Rattle.ftl_model.specs.layout.Solves.{rule_named}
use Rattle.ftl_model.specs.layout.Values.{Value}

-- two rules read the same, and give the same value
pub record IsSameRule (r q : Rule) : Type 0 where
  pub parts : r.parts ≡ q.parts
  pub value : (kids : ℕ → ℕ) (n : ℕ) (s : Occurrence → Value) → r.value kids n s ≡ q.value kids n s

-- two grammars have the same counts, and agree on each number below these and on each rule
pub record IsAlike (g h : AttributeGrammar) : Type 0 where
  pub greatest : g.greatest ≡ h.greatest
  pub root : g.root ≡ h.root
  pub interface_count : g.interface_count ≡ h.interface_count
  pub class_count : g.class_count ≡ h.class_count
  pub attribute_count : g.attribute_count ≡ h.attribute_count
  pub interface : (k : ℕ) → k < g.class_count → g.interface k ≡ h.interface k
  pub child_count : (k : ℕ) → k < g.class_count → g.child_count k ≡ h.child_count k
  pub child_interface :
      (k c : ℕ) → k < g.class_count → c < g.child_count k → g.child_interface k c ≡ h.child_interface k c
  pub is_list : (k c : ℕ) → k < g.class_count → c < g.child_count k → g.is_list k c ≡ h.is_list k c
  pub shared : (i : ℕ) → i < g.interface_count → g.shared i ≡ h.shared i
  pub private : (k : ℕ) → k < g.class_count → g.private k ≡ h.private k
  pub sort : (a : ℕ) → a < g.attribute_count → g.sort a ≡ h.sort a
  pub rules : g.rules ≡ h.rules
  pub each_rule : (w : RuleName) → Contains g.rules w → IsSameRule (rule_named g w) (rule_named h w)

-- what is printed of a grammar with so many classes and attributes is the same
pub record PrintsAlike (class_count attribute_count : ℕ) (x y : Names) : Type 0 where
  pub classes : (k : ℕ) → k < class_count → x.class_name k ≡ y.class_name k
  pub attributes : (a : ℕ) → a < attribute_count → x.attribute_name a ≡ y.attribute_name a
  pub shown : (k : ℕ) → k < class_count → x.shown k ≡ y.shown k
