-- Which step must come before which, and the orders of all steps that keep to it.
use Rattle.std.specs.Prelude.{◌≡◌, ◌≢◌, ◌⊎◌, ℕ, ◌<◌, List, [], ◌∷◌, length, Some, slice_index_or, slice_set, Contains}
use Rattle.ftl_model.specs.lists.Lists.{AreDistinct, Before}
use Rattle.ftl_model.specs.layout.AttributeGrammar.{AttributeGrammar, Sort, inherited, input, input_value, local, synthesized}
use Rattle.ftl_model.specs.layout.Path.{Above, Path, class_at, down, inputs_at, parent_of, top}
use Rattle.ftl_model.specs.layout.Solves.{Instance, IsInstance, equation_value, rule_kid, rule_node}
use Rattle.ftl_model.specs.layout.Table.{instance_number, value_in}
use Rattle.ftl_model.specs.layout.Tree.{Forest}
use Rattle.ftl_model.specs.layout.Values.{Value}
use Rattle.ftl_order.specs.orders.Ordered.{IsSameRule, KeyBelow, VisitPlace, block_of}
use Rattle.ftl_order.specs.orders.Schedule.{IsOnePass, PassKind, Placing, Schedule, bottomup, inorder, placing_of}
use Rattle.ftl_order.specs.orders.Schedule.{topdown}

-- a step is one computed instance
abbrev pub IsStep : AttributeGrammar → Forest → Instance → Type 0
IsStep g t i = IsInstance g t i × (g.sort i.attribute ≢ input)

-- when a step runs: in the visit of which node, by which rule of that visit, and for which kid
pub record Turn : Type 0 where
  pub visit : Path
  pub rule : VisitPlace
  pub kid : ℕ

-- the child of the visited node that the rule is for; 0 where it is for the node itself
abbrev pub rule_child : Sort → Path → ℕ
rule_child inherited (down c k p) = c
rule_child inherited top = 0
rule_child input p = 0
rule_child synthesized p = 0
rule_child local p = 0

-- the turn of an attribute of this kind at a node
abbrev pub turn_by : Sort → Path → ℕ → Turn
turn_by sort p a =
    record {
      visit = rule_node sort p;
      rule = record { attribute = a; block = block_of sort; child = rule_child sort p };
      kid = rule_kid sort p;
    }

-- the turn of a step
abbrev pub turn_of : AttributeGrammar → Instance → Turn
turn_of g i = turn_by (g.sort i.attribute) i.node i.attribute

-- in one visit: the smaller key, or the same rule for an earlier kid
abbrev pub KeyFirst : Placing → Turn → Turn → Type 0
KeyFirst at x y = KeyBelow at x.rule y.rule ⊎ (IsSameRule x.rule y.rule × (x.kid < y.kid))

-- The sequence of an inorder pass at a node: the locals; for each child and each kid, the kid's inherited attributes
-- and then the kid's sequence; the synthesized attributes. A step's address names, from the root on, the block, the
-- child and the kid, then 0 for the attributes there and 1 for the kid's sequence; it ends in the place in the pass's
-- list.
abbrev pub way_to : Path → List ℕ → List ℕ
way_to top rest = rest
way_to (down c k p) rest = way_to p (1 ∷ (c ∷ (k ∷ (1 ∷ rest))))

-- the address of a step in the sequence
abbrev pub address : Placing → Turn → List ℕ
address at x =
    way_to x.visit (x.rule.block ∷ (x.rule.child ∷ (x.kid ∷ (0 ∷ ((at x.rule.attribute).index ∷ [])))))

-- in one pass: earlier in the same visit, or the visit of a node above (topdown) or below (bottomup); for an inorder
-- pass, earlier in its sequence
abbrev pub FirstInPass : PassKind → Placing → Turn → Turn → Type 0
FirstInPass topdown at x y = ((x.visit ≡ y.visit) × KeyFirst at x y) ⊎ Above x.visit y.visit
FirstInPass bottomup at x y = ((x.visit ≡ y.visit) × KeyFirst at x y) ⊎ Above y.visit x.visit
FirstInPass inorder at x y = Before (address at x) (address at y)

-- in an earlier stage, or in one pass and first there
abbrev pub TurnPrecedes : Placing → Turn → Turn → Type 0
TurnPrecedes at x y =
    ((at x.rule.attribute).stage < (at y.rule.attribute).stage)
    ⊎ (IsOnePass (at x.rule.attribute) (at y.rule.attribute) × FirstInPass (at y.rule.attribute).kind at x y)

-- step i must come before step j, where attributes stand so
abbrev pub PrecedesBy : AttributeGrammar → Placing → Instance → Instance → Type 0
PrecedesBy g at i j = TurnPrecedes at (turn_of g i) (turn_of g j)

-- of a tree, under a schedule
abbrev pub MustPrecede : AttributeGrammar → Forest → Schedule → Instance → Instance → Type 0
MustPrecede g t s i j = PrecedesBy g (placing_of s) i j

-- the same with the nearest visits alone: the parent's (topdown) or a kid's (bottomup)
abbrev pub DirectlyFirstInPass : PassKind → Placing → Turn → Turn → Type 0
DirectlyFirstInPass topdown at x y = ((x.visit ≡ y.visit) × KeyFirst at x y) ⊎ (parent_of y.visit ≡ Some x.visit)
DirectlyFirstInPass bottomup at x y = ((x.visit ≡ y.visit) × KeyFirst at x y) ⊎ (parent_of x.visit ≡ Some y.visit)
DirectlyFirstInPass inorder at x y = Before (address at x) (address at y)

-- in an earlier stage, or in one pass and near before it there
abbrev pub TurnPrecedesDirectly : Placing → Turn → Turn → Type 0
TurnPrecedesDirectly at x y =
    ((at x.rule.attribute).stage < (at y.rule.attribute).stage)
    ⊎ (IsOnePass (at x.rule.attribute) (at y.rule.attribute) × DirectlyFirstInPass (at y.rule.attribute).kind at x y)

-- of two steps, where attributes stand so
abbrev pub PrecedesDirectlyBy : AttributeGrammar → Placing → Instance → Instance → Type 0
PrecedesDirectlyBy g at i j = TurnPrecedesDirectly at (turn_of g i) (turn_of g j)

-- of two steps of a tree, under a schedule
abbrev pub PrecedesDirectly : AttributeGrammar → Forest → Schedule → Instance → Instance → Type 0
PrecedesDirectly g t s i j = PrecedesDirectlyBy g (placing_of s) i j

-- all steps, each once, and none before one that must come first by this relation
pub record IsLegalBy (g : AttributeGrammar) (t : Forest) (First : Instance → Instance → Type 0)
    (order : List Instance) : Type 0 where
  pub steps : (i : Instance) → Contains order i → IsStep g t i
  pub all : (i : Instance) → IsStep g t i → Contains order i
  pub once : AreDistinct order
  pub legal :
      (m n : ℕ) (d : Instance) → m < n → n < length order
      → First (slice_index_or order n d) (slice_index_or order m d) → ⊥

-- all steps, each once, and none before one that must precede it
abbrev pub IsLegalOrder : AttributeGrammar → Forest → Schedule → List Instance → Type 0
IsLegalOrder g t s order = IsLegalBy g t (MustPrecede g t s) order

-- the values after the steps of an order have been computed one after the other
abbrev pub run : AttributeGrammar → Forest → List Instance → List Value → List Value
run g t [] values = values
run g t (i ∷ order) values =
    run g t order
    (slice_set values (instance_number g t i)
    (equation_value g t (value_in g t values) (g.sort i.attribute) i.node i.attribute))

-- the values have each input's number from the document
abbrev pub HoldsInputs : AttributeGrammar → Forest → List Value → Type 0
HoldsInputs g t values =
    (i : Instance) → IsInstance g t i → g.sort i.attribute ≡ input
    → value_in g t values i ≡ input_value g (class_at t i.node) i.attribute (inputs_at t i.node)
