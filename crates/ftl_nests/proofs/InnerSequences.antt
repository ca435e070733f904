-- Which step of an inorder pass of a nest must precede which, at one host.
use Rattle.std.proofs.Common.{◌≡◌, ◌≢◌, ◌↔◌, ℕ, zero, suc, ◌<◌, ◌≤◌, refl, sym, ap, subst, inl, inr, arith, [], ◌∷◌, Some, Contains}
use Rattle.ftl_model.specs.lists.Lists.{Before, StandsBefore}
use Rattle.ftl_model.proofs.lists.Listed.{counted_in}
use Rattle.ftl_model.specs.layout.AttributeGrammar.{AttributeGrammar, input}
use Rattle.ftl_model.specs.layout.Path.{Path}
use Rattle.ftl_model.specs.layout.Solves.{Instance}
use Rattle.ftl_model.specs.layout.Tree.{Forest}
use Rattle.ftl_model.specs.layout.TreeOf.{IsTreeOf}
use Rattle.ftl_order.specs.orders.Lawful.{IsLawful}
use Rattle.ftl_order.specs.orders.LegalOrder.{FirstInPass, IsStep, Turn, TurnPrecedes, address, turn_of, way_to}
use Rattle.ftl_order.specs.orders.Schedule.{IsOnePass, Pass, Schedule, SchedulePlace, entries, inorder, pass_at, placing_of}
use Rattle.ftl_order.specs.orders.Sequence.{sequence_at}
use Rattle.ftl_order.proofs.orders.SequenceAddresses.{EarlierAddress}
use Rattle.ftl_items.specs.stage_items.Items.{pass_place}
use Rattle.ftl_items.proofs.stage_items.Passes.{many, many-append, stage_here}
use Rattle.ftl_nests.specs.Hosted.{HostedFirst, IsHost, MustPrecedeWithNests}
use Rattle.ftl_nests.specs.Nests.{IsNestOrdered, NestPlacing, NestingPass, NestingSchedule, home_pass, inner_stages, nest_placing_of, nesting_pass, outer_schedule, whole_pass}
use Rattle.ftl_nests.proofs.InnerSteps.{IsInner, in_sequence, placed}
use Rattle.ftl_nests.proofs.Sides.{home_lists, nest_lists, one_home, outer_pass_at}

module _ (g : AttributeGrammar) (s : NestingSchedule) (t : Forest) (law : IsLawful g) (ordered : IsNestOrdered g s)
    (fits : IsTreeOf g t) where
  abbrev at : NestPlacing
  at = nest_placing_of s

  abbrev outer : Schedule
  outer = outer_schedule s

  -- a nest lists no attribute twice
  few_nested : (u n a : ℕ) → a < g.attribute_count → g.sort a ≢ input
      → many a (entries (inner_stages (nesting_pass s u n).nest)) ≤ 1
  few_nested u n a known computed =
      let w : many a (whole_pass (nesting_pass s u n)).attributes ≤ 1 =
      subst (λ (p : Pass). many a p.attributes ≤ 1) (outer_pass_at s u n) (go (many a (pass_at outer u n).attributes) refl)
      in
      let f = many-append a (nesting_pass s u n).attributes (entries (inner_stages (nesting_pass s u n).nest)) in
      omega (arith, w, f)
    where
      go : (k : ℕ) → many a (pass_at outer u n).attributes ≡ k → many a (pass_at outer u n).attributes ≤ 1
      go zero e = omega (arith, e)
      go (suc k) e =
          let c = ordered.once a known computed in
          (stage_here outer u n a (omega (arith, c)) (counted_in (pass_at outer u n).attributes a (omega (arith, e)))).few

  module _ (i j : Instance) (step_i : IsStep g t i) (step_j : IsStep g t j)
      (pass : IsOnePass (at.outer i.attribute) (at.outer j.attribute))
      (inner_pass : IsOnePass (at.inner i.attribute) (at.inner j.attribute))
      (kind : (at.inner j.attribute).kind ≡ inorder) (k : ℕ) (host_i : at.host i.attribute ≡ Some k)
      (host_j : at.host j.attribute ≡ Some k) (h : Path) (is_i : IsHost t k h (turn_of g i).visit)
      (is_j : IsHost t k h (turn_of g j).visit) where
    abbrev x : Turn
    x = turn_of g i

    abbrev y : Turn
    y = turn_of g j

    -- the inner stages of both
    abbrev stages : Schedule
    stages = inner_stages (home_pass s j.attribute).nest

    home : home_pass s i.attribute ≡ home_pass s j.attribute
    home = one_home s i.attribute j.attribute pass

    place_i : at.inner i.attribute ≡ placing_of stages i.attribute
    place_i = ap (λ (p : NestingPass). placing_of (inner_stages p.nest) i.attribute) home

    few : (a : ℕ) → a < g.attribute_count → g.sort a ≢ input → many a (entries stages) ≤ 1
    few = few_nested (placing_of outer j.attribute).stage (placing_of outer j.attribute).pass

    listed_i : Contains (entries stages) i.attribute
    listed_i =
        subst (λ (p : NestingPass). Contains (entries (inner_stages p.nest)) i.attribute) home
        (nest_lists (home_pass s i.attribute) i.attribute k host_i (home_lists g s ordered.once t law fits i step_i))

    listed_j : Contains (entries stages) j.attribute
    listed_j = nest_lists (home_pass s j.attribute) j.attribute k host_j (home_lists g s ordered.once t law fits j step_j)

    inner_i : IsInner g law t fits stages few h (placing_of stages j.attribute).stage (placing_of stages j.attribute).pass i
    inner_i =
        record {
          step = step_i;
          listed = listed_i;
          pass = subst (λ (p : SchedulePlace). IsOnePass p (placing_of stages j.attribute)) place_i inner_pass;
          below = is_i.holds;
        }

    both_ways : EarlierAddress g (placing_of stages) i j
        ↔ StandsBefore (sequence_at g (placing_of stages)
        (pass_place (at.inner j.attribute).stage (at.inner j.attribute).pass) t h) i j
    both_ways =
        let of_j = placed g law t fits stages few h is_i.there j step_j listed_j is_j.holds in
        in_sequence g law t fits stages few h is_i.there (placing_of stages j.attribute).stage
        (placing_of stages j.attribute).pass of_j.known i j inner_i of_j.is

    -- in an inorder pass what is first has the earlier address
    first_address : TurnPrecedes at.inner x y → EarlierAddress g (placing_of stages) i j
    first_address (inl stage) = let e = inner_pass.0 in absurd (let z : ⊥ = omega (arith, stage, e) in z)
    first_address (inr here) =
        subst
        (λ (p : SchedulePlace). Before (way_to x.visit (x.rule.block ∷ (x.rule.child ∷ (x.kid ∷ (0 ∷ (p.index ∷ []))))))
        (address (placing_of stages) y))
        place_i (subst (λ kind. FirstInPass kind at.inner x y) kind here.1)

    address_first : EarlierAddress g (placing_of stages) i j → TurnPrecedes at.inner x y
    address_first earlier =
        inr (
          inner_pass,
          subst (λ kind. FirstInPass kind at.inner x y) (sym kind)
              (subst
              (λ (p : SchedulePlace). Before (way_to x.visit (x.rule.block ∷ (x.rule.child ∷ (x.kid ∷ (0 ∷ (p.index ∷ []))))))
              (address (placing_of stages) y))
              (sym place_i) earlier),
        )

    must_address : MustPrecedeWithNests g t at i j → EarlierAddress g (placing_of stages) i j
    must_address (inl stage) = let e = pass.0 in absurd (let z : ⊥ = omega (arith, stage, e) in z)
    must_address (inr here) =
        let both : HostedFirst t (Some k) (Some k) (at.outer j.attribute).kind at x y =
        subst (λ b. HostedFirst t (Some k) b (at.outer j.attribute).kind at x y) host_j
        (subst (λ b. HostedFirst t b (at.host j.attribute) (at.outer j.attribute).kind at x y) host_i here.1) in
        first_address both.3

    address_must : EarlierAddress g (placing_of stages) i j → MustPrecedeWithNests g t at i j
    address_must earlier =
        inr (
          pass,
          subst (λ b. HostedFirst t b (at.host j.attribute) (at.outer j.attribute).kind at x y) (sym host_i)
              (subst (λ b. HostedFirst t (Some k) b (at.outer j.attribute).kind at x y) (sym host_j)
              (h, is_i, is_j, address_first earlier)),
        )

    pub inner_sequence : MustPrecedeWithNests g t at i j
        ↔ StandsBefore (sequence_at g (placing_of stages)
        (pass_place (at.inner j.attribute).stage (at.inner j.attribute).pass) t h) i j
    inner_sequence = ((λ first. both_ways.0 (must_address first)), (λ stands. address_must (both_ways.1 stands)))
