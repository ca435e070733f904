-- The steps that are brought forward before a step, where passes have nests: those of earlier outer stages, and in its own
-- outer pass those that come near before it.
use Rattle.std.specs.Prelude.{◌≡◌, ◌&&◌, ◌||◌, ℕ, nat_lt, Bool, true, List, Option, None, Some}
use Rattle.ftl_model.specs.lists.Lists.{StandsBefore}
use Rattle.ftl_model.specs.layout.AttributeGrammar.{AttributeGrammar}
use Rattle.ftl_model.specs.layout.Solves.{Instance}
use Rattle.ftl_model.specs.layout.Tree.{Forest}
use Rattle.ftl_model.specs.layout.TreeOf.{IsTreeOf}
use Rattle.ftl_order.specs.faults.OrderedReads.{is_one_pass}
use Rattle.ftl_order.specs.orders.Lawful.{IsLawful}
use Rattle.ftl_order.specs.orders.LegalOrder.{IsStep, turn_of}
use Rattle.ftl_order.specs.orders.Schedule.{EachStandsOnce, PassKind}
use Rattle.ftl_example.specs.orders.EarlyVisits.{is_early, is_near, is_over}
use Rattle.ftl_example.specs.orders.PlainOrder.{IsClosed, parted}
use Rattle.ftl_nests.specs.Hosted.{MustPrecedeWithNests, nearest}
use Rattle.ftl_nests.specs.NestLaws.{IsLegalWithNests}
use Rattle.ftl_nests.specs.Nests.{AreSidesKept, NestPlacing, NestingSchedule, nest_placing_of, outer_schedule}
use Rattle.ftl_regions.specs.pairs.NestReads.{is_bottomup, is_topdown}
use Rattle.ftl_example.specs.nests.orders.NestOrders.{plain_order_with_nests}

-- In one outer pass of this kind, by the nests that step i and step r stand in. Neither: as without nests. Both: step i
-- runs in the tree of step r's host, and is early for it in the inner stages. Only step r: in a topdown pass, at its
-- visit or above. Only step i: in a bottomup pass, at or below step r's visit.
abbrev pub is_early_in : AttributeGrammar → NestPlacing → Forest → PassKind → Option ℕ → Option ℕ → (r i : Instance) → Bool
is_early_in g at t kind None None r i = is_near kind t (turn_of g i).visit (turn_of g r).visit
is_early_in g at t kind (Some h) (Some k) r i =
    is_over t (nearest t k (turn_of g r).visit) (turn_of g i).visit && is_early g at.inner t r i
is_early_in g at t kind None (Some k) r i = is_topdown kind && is_over t (turn_of g i).visit (turn_of g r).visit
is_early_in g at t kind (Some h) None r i = is_bottomup kind && is_over t (turn_of g r).visit (turn_of g i).visit

-- a step i of an earlier outer stage, or near before step r in its outer pass
abbrev pub is_early_with_nests : AttributeGrammar → NestPlacing → Forest → (r i : Instance) → Bool
is_early_with_nests g at t r i =
    nat_lt (at.outer i.attribute).stage (at.outer r.attribute).stage
    || (is_one_pass (at.outer i.attribute) (at.outer r.attribute)
    && is_early_in g at t (at.outer r.attribute).kind (at.host i.attribute) (at.host r.attribute) r i)

-- what must come before an early step is early, and the step itself is
abbrev pub EarlyIsClosedWithNests : Type 0
EarlyIsClosedWithNests =
    (g : AttributeGrammar) (s : NestingSchedule) (t : Forest) (r : Instance) → IsLawful g
    → EachStandsOnce g (outer_schedule s) → AreSidesKept g s → IsTreeOf g t → IsStep g t r
    → IsClosed g t (MustPrecedeWithNests g t (nest_placing_of s)) (is_early_with_nests g (nest_placing_of s) t r)
    × (is_early_with_nests g (nest_placing_of s) t r r ≡ true)

-- the plain order with the early steps first
abbrev pub early_first_with_nests : AttributeGrammar → NestingSchedule → Forest → (r : Instance) → List Instance
early_first_with_nests g s t r = parted (is_early_with_nests g (nest_placing_of s) t r) (plain_order_with_nests g s t)

-- it is legal, and has r before each step that need not come before it, or is that step
abbrev pub EarlyFirstIsFreeWithNests : Type 0
EarlyFirstIsFreeWithNests =
    (g : AttributeGrammar) (s : NestingSchedule) (t : Forest) (r w : Instance) → IsLawful g
    → EachStandsOnce g (outer_schedule s) → AreSidesKept g s → IsTreeOf g t → IsStep g t r → IsStep g t w
    → (MustPrecedeWithNests g t (nest_placing_of s) w r → ⊥)
    → IsLegalWithNests g s t (early_first_with_nests g s t r)
    × (StandsBefore (early_first_with_nests g s t r) w r → ⊥)
