-- The steps that are brought forward before a step: those of earlier stages, and in its own pass those of the visits that
-- come before its visit, and of its visit.
use Rattle.std.specs.Prelude.{◌≡◌, ◌+◌, ◌==◌, ◌&&◌, ◌||◌, nat_le, nat_lt, Bool, true, List}
use Rattle.ftl_model.specs.lists.Lists.{StandsBefore}
use Rattle.ftl_model.specs.layout.AttributeGrammar.{AttributeGrammar}
use Rattle.ftl_model.specs.layout.Path.{Path, number_of, size_at}
use Rattle.ftl_model.specs.layout.Solves.{Instance}
use Rattle.ftl_model.specs.layout.Tree.{Forest}
use Rattle.ftl_model.specs.layout.TreeOf.{IsTreeOf}
use Rattle.ftl_order.specs.orders.Lawful.{IsLawful}
use Rattle.ftl_order.specs.orders.LegalOrder.{IsLegalOrder, IsStep, MustPrecede, turn_of}
use Rattle.ftl_order.specs.orders.Schedule.{EachStandsOnce, PassKind, Placing, Schedule, bottomup, inorder, placing_of, topdown}
use Rattle.ftl_example.specs.orders.PlainOrder.{IsClosed, parted, plain_order}

-- the first node is the second or above it, by numbers
abbrev pub is_over : Forest → Path → Path → Bool
is_over t p q = nat_le (number_of t p) (number_of t q) && nat_lt (number_of t q) (number_of t p + size_at t p)

-- in a pass of this kind, the visit of p comes before that of q or is it; an inorder pass is one visit
abbrev pub is_near : PassKind → Forest → Path → Path → Bool
is_near topdown t p q = is_over t p q
is_near bottomup t p q = is_over t q p
is_near inorder t p q = true

-- a step of an earlier stage, or near before step r in its pass
abbrev pub is_early : AttributeGrammar → Placing → Forest → (r i : Instance) → Bool
is_early g at t r i =
    nat_lt (at i.attribute).stage (at r.attribute).stage
    || (((at i.attribute).stage == (at r.attribute).stage && (at i.attribute).pass == (at r.attribute).pass)
    && is_near (at r.attribute).kind t (turn_of g i).visit (turn_of g r).visit)

-- what must come before an early step is early, and the step itself is
abbrev pub EarlyIsClosed : Type 0
EarlyIsClosed =
    (g : AttributeGrammar) (s : Schedule) (t : Forest) (r : Instance) → IsLawful g → EachStandsOnce g s → IsTreeOf g t
    → IsStep g t r
    → IsClosed g t (MustPrecede g t s) (is_early g (placing_of s) t r) × (is_early g (placing_of s) t r r ≡ true)

-- the plain order with the early steps first
abbrev pub early_first : AttributeGrammar → Schedule → Forest → (r : Instance) → List Instance
early_first g s t r = parted (is_early g (placing_of s) t r) (plain_order g s t)

-- it is legal, and has r before each step that need not come before it, or is that step
abbrev pub EarlyFirstIsFree : Type 0
EarlyFirstIsFree =
    (g : AttributeGrammar) (s : Schedule) (t : Forest) (r w : Instance) → IsLawful g → EachStandsOnce g s → IsTreeOf g t
    → IsStep g t r → IsStep g t w → (MustPrecede g t s w r → ⊥)
    → IsLegalOrder g t s (early_first g s t r) × (StandsBefore (early_first g s t r) w r → ⊥)
