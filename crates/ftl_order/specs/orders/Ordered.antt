-- Ordered schedules: each pair of a read and a writer is ordered, by the kind of the pass and by where the writer runs.
use Rattle.std.specs.Prelude.{◌≡◌, ◌⊎◌, ℕ, ◌<◌, Bool, IsTrue}
use Rattle.ftl_model.specs.layout.AttributeGrammar.{AttributeGrammar, Read, RuleName, Sort, for_child, for_self, inherited}
use Rattle.ftl_model.specs.layout.AttributeGrammar.{input, local, synthesized}
use Rattle.ftl_order.specs.orders.Pairs.{IsPair, Pair, Where, child_class, child_read, is_by_prev, parent_class, same_class}
use Rattle.ftl_order.specs.orders.Schedule.{EachStandsOnce, IsOnePass, PassKind, Placing, Schedule, bottomup, inorder}
use Rattle.ftl_order.specs.orders.Schedule.{placing_of}
use Rattle.ftl_order.specs.orders.Schedule.{topdown}

-- the block of a node's visit: 0 for the locals, 1 for the kids of a child, 2 for the synthesized attributes
abbrev pub block_of : Sort → ℕ
block_of input = 0
block_of inherited = 1
block_of synthesized = 2
block_of local = 0

-- where a rule stands in the visit of a node; the child is 0 where the rule is for the node itself
pub record VisitPlace : Type 0 where
  pub attribute : ℕ
  pub block : ℕ
  pub child : ℕ

-- where the rule of this name stands
abbrev pub visit_place : AttributeGrammar → RuleName → VisitPlace
visit_place g (for_self class a) = record { attribute = a; block = block_of (g.sort a); child = 0 }
visit_place g (for_child class c a) = record { attribute = a; block = 1; child = c }

-- the key is smaller: the attribute stands earlier in the list, or is the same and the child is declared earlier
abbrev pub KeyBelow : Placing → VisitPlace → VisitPlace → Type 0
KeyBelow at x y =
    ((at x.attribute).index < (at y.attribute).index)
    ⊎ (((at x.attribute).index ≡ (at y.attribute).index) × (x.child < y.child))

-- rules for the same attribute, of the same child
abbrev pub IsSameRule : VisitPlace → VisitPlace → Type 0
IsSameRule x y = (x.attribute ≡ y.attribute) × (x.child ≡ y.child)

-- the block is earlier: locals, then child by child, then the synthesized attributes
abbrev pub BlockBelow : VisitPlace → VisitPlace → Type 0
BlockBelow x y = (x.block < y.block) ⊎ ((x.block ≡ y.block) × (x.child < y.child))

-- rules of one block
abbrev pub IsSameBlock : VisitPlace → VisitPlace → Type 0
IsSameBlock x y = (x.block ≡ y.block) × (x.child ≡ y.child)

-- In one pass, x writes and y reads, and both rules run at one node: the writer's key is smaller, or it is the rule
-- itself read by `prev`. In an inorder pass the writer's block is earlier, or the block is the same and the writer's
-- key is smaller or the read is by `prev`.
abbrev pub SameClassRow : PassKind → Placing → Bool → VisitPlace → VisitPlace → Type 0
SameClassRow topdown at by_prev x y = KeyBelow at x y ⊎ (IsTrue by_prev × IsSameRule x y)
SameClassRow bottomup at by_prev x y = KeyBelow at x y ⊎ (IsTrue by_prev × IsSameRule x y)
SameClassRow inorder at by_prev x y =
    BlockBelow x y ⊎ (IsSameBlock x y × (KeyBelow at x y ⊎ IsTrue by_prev))

-- the writer runs at the parent: never in a bottomup pass
abbrev pub ParentRow : PassKind → Type 0
ParentRow topdown = Unit {0}
ParentRow bottomup = ⊥
ParentRow inorder = Unit {0}

-- The writer runs at a kid in child `c`: always in a bottomup pass, and never in a topdown one. In an inorder pass the
-- reader is for a synthesized attribute, or for one of a child, and `c` is declared earlier or the read is by `prev`.
abbrev pub ChildRow : PassKind → (by_prev : Bool) → (c : ℕ) → VisitPlace → Type 0
ChildRow topdown by_prev c y = ⊥
ChildRow bottomup by_prev c y = Unit {0}
ChildRow inorder by_prev c y = (y.block ≡ 2) ⊎ ((y.block ≡ 1) × ((c < y.child) ⊎ IsTrue by_prev))

-- the row of the table, by where the writer runs
abbrev pub Row : Where → PassKind → Placing → Read → VisitPlace → VisitPlace → Type 0
Row same_class kind at r x y = SameClassRow kind at (is_by_prev r) x y
Row parent_class kind at r x y = ParentRow kind
Row child_class kind at r x y = ChildRow kind (is_by_prev r) (child_read r) y

-- the writer x stands in an earlier stage, or in the same pass, and the pass has it earlier than the reader y
abbrev pub IsOrderedRead : Placing → Where → Read → VisitPlace → VisitPlace → Type 0
IsOrderedRead at runs_at r x y =
    ((at x.attribute).stage < (at y.attribute).stage)
    ⊎ (IsOnePass (at x.attribute) (at y.attribute) × Row runs_at (at y.attribute).kind at r x y)

-- a pair whose read is ordered
abbrev pub IsOrderedPair : AttributeGrammar → Placing → Pair → Type 0
IsOrderedPair g at pair = IsOrderedRead at pair.runs_at pair.read (visit_place g pair.writer)
    (visit_place g pair.reader)

-- each pair of the grammar is
abbrev pub EachPairOrdered : AttributeGrammar → Placing → Type 0
EachPairOrdered g at = (pair : Pair) → IsPair g pair → IsOrderedPair g at pair

-- a schedule that is accepted
pub record IsOrdered (g : AttributeGrammar) (s : Schedule) : Type 0 where
  pub once : EachStandsOnce g s
  pub pairs : EachPairOrdered g (placing_of s)
