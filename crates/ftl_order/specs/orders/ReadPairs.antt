-- What a step reads, as a pair of rules on a tree, with no placing in it: how the turns of the writer and of the reader
-- stand.
use Rattle.std.specs.Prelude.{◌≡◌, ◌≢◌, ℕ, ◌<◌, ◌≤◌, IsTrue}
use Rattle.ftl_model.specs.layout.AttributeGrammar.{AttributeGrammar, Read, RuleName, input}
use Rattle.ftl_model.specs.layout.Path.{down}
use Rattle.ftl_model.specs.layout.Solves.{Instance, rule_name}
use Rattle.ftl_model.specs.layout.Tree.{Forest}
use Rattle.ftl_model.specs.layout.TreeOf.{IsTreeOf}
use Rattle.ftl_order.specs.orders.Lawful.{IsLawful}
use Rattle.ftl_order.specs.orders.LegalOrder.{IsStep, Turn, turn_of}
use Rattle.ftl_order.specs.orders.Ordered.{IsSameBlock}
use Rattle.ftl_order.specs.orders.Pairs.{IsPair, Pair, Where, child_class, child_read, is_by_prev, parent_class, same_class}
use Rattle.ftl_order.specs.orders.Reads.{Reads}

-- The turn x of the writer and the turn y of the reader. In one visit the writer is for no later kid in its block, and
-- for an earlier kid of the same child where the read is by `prev`. At the parent it is for the reader's node. At a kid
-- it stands in the child that is read, and is an earlier kid of the reader's child where the read is by `prev`.
abbrev pub Stand : Where → Read → Turn → Turn → Type 0
Stand same_class r x y =
    (x.visit ≡ y.visit) × (IsSameBlock x.rule y.rule → x.kid ≤ y.kid)
    × (IsTrue (is_by_prev r) → (x.rule.child ≡ y.rule.child) × (x.kid < y.kid))
Stand parent_class r x y = (x.rule.block ≡ 1) × (y.visit ≡ down x.rule.child x.kid x.visit)
Stand child_class r x y =
    (n : ℕ) × (x.visit ≡ down (child_read r) n y.visit)
    × (IsTrue (is_by_prev r) → (child_read r ≡ y.rule.child) × (n < y.kid))

-- the rule that computes a step
abbrev pub rule_of_step : AttributeGrammar → Forest → Instance → RuleName
rule_of_step g t i = rule_name t (g.sort i.attribute) i.node i.attribute

-- step i reads step j by this pair
pub record ReadsBy (g : AttributeGrammar) (t : Forest) (i j : Instance) (pair : Pair) : Type 0 where
  pub is : IsPair g pair
  pub reader : pair.reader ≡ rule_of_step g t i
  pub writer : pair.writer ≡ rule_of_step g t j
  pub stand : Stand pair.runs_at pair.read (turn_of g j) (turn_of g i)

-- what a step reads is an input, or the two are a pair
abbrev pub ReadsArePairs : Type 0
ReadsArePairs =
    (g : AttributeGrammar) (t : Forest) → IsLawful g → IsTreeOf g t
    → (i j : Instance) → IsStep g t i → Reads g t i j → g.sort j.attribute ≢ input → (pair : Pair)
    × ReadsBy g t i j pair
