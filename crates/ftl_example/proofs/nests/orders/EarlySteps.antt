-- The steps that are brought forward before a step are closed, where passes have nests.
use Rattle.std.proofs.Common.{◌≡◌, ◌<◌, ℕ, true, refl, sym, ◌∙◌, ap, subst, inl, inr, ⊎_elim, arith, Option, None, Some}
use Rattle.std.proofs.lemmas.Bool.{and_from, and_parts, cases_lt}
use Rattle.ftl_model.proofs.layout.Standing.{node_at-number_of}
use Rattle.ftl_model.specs.layout.AttributeGrammar.{AttributeGrammar}
use Rattle.ftl_model.specs.layout.Path.{AtOrAbove, Has, Path, node_at, number_of}
use Rattle.ftl_model.specs.layout.Solves.{Instance}
use Rattle.ftl_model.specs.layout.Tree.{Forest}
use Rattle.ftl_model.specs.layout.TreeOf.{IsTreeOf}
use Rattle.ftl_order.specs.orders.Lawful.{IsLawful}
use Rattle.ftl_order.specs.orders.LegalOrder.{FirstInPass, IsStep, TurnPrecedes, turn_of}
use Rattle.ftl_order.specs.orders.Schedule.{EachStandsOnce, IsOnePass, PassKind, Placing, placing_of, topdown}
use Rattle.ftl_order.proofs.orders.LegalOrders.{placing_of-one_kind}
use Rattle.ftl_order.proofs.orders.Ranges.{range_above}
use Rattle.ftl_items.proofs.stage_items.PassSteps.{visit_there}
use Rattle.ftl_example.specs.orders.EarlyVisits.{is_early, is_near, is_over}
use Rattle.ftl_example.specs.orders.PlainOrder.{IsClosed}
use Rattle.ftl_example.proofs.orders.EarlyVisits.{above_over, near_first, near_self, over_chain, over_parts, over_self}
use Rattle.ftl_nests.specs.Flat.{flat_schedule}
use Rattle.ftl_nests.specs.Hosted.{HostedFirst, IsHost, MustPrecedeWithNests, nearest}
use Rattle.ftl_nests.specs.Nests.{AreSidesKept, NestPlacing, NestingSchedule, nest_placing_of, outer_schedule}
use Rattle.ftl_nests.proofs.FlatLaws.{flat_once, step_stands}
use Rattle.ftl_nests.proofs.FlatOrder.{first_moves}
use Rattle.ftl_nests.proofs.Flattened.{Flattens, StandsOnce, flattens}
use Rattle.ftl_nests.proofs.HostedOrder.{nearest_host, own_below_none}
use Rattle.ftl_nests.proofs.RegionNodes.{comparable, one_host}
use Rattle.ftl_nests.proofs.Sides.{sides_kept}
use Rattle.ftl_nests.proofs.Writers.{HasSides}
use Rattle.ftl_regions.specs.pairs.NestReads.{is_bottomup, is_topdown}
use Rattle.ftl_example.specs.nests.orders.EarlyWithNests.{is_early_in, is_early_with_nests}
use Rattle.ftl_example.proofs.nests.orders.EarlyTests.{bottomup_is, early_tells, nest_early_tells, not_both, topdown_is}

module _ (t : Forest) where
  pub over_of : (p q : Path) → Has t q → AtOrAbove p q → is_over t p q ≡ true
  over_of p q there (inl same) = subst (λ x. is_over t p x ≡ true) same (over_self t p)
  over_of p q there (inr above) = above_over t p q there above

  pub of_over : (p q : Path) → Has t p → Has t q → is_over t p q ≡ true → AtOrAbove p q
  of_over p q hp hq over =
      let o = over_parts t p q over in
      let le = o.0 in
      let less = o.1 in
      ⊎_elim (λ low. inr (range_above t p q hp hq (omega (arith, low), omega (arith, less))))
      (λ high.
      let numbers : number_of t p ≡ number_of t q = omega (arith, le, high) in
      inl (sym (node_at-number_of t p hp) ∙ ap (node_at t) numbers ∙ node_at-number_of t q hq))
      (cases_lt (number_of t p) (number_of t q))

module _ (g : AttributeGrammar) (s : NestingSchedule) (t : Forest) (law : IsLawful g)
    (once : EachStandsOnce g (outer_schedule s)) (keeps : AreSidesKept g s) (fits : IsTreeOf g t) where
  abbrev pub at : NestPlacing
  at = nest_placing_of s

  abbrev pub flat : Placing
  flat = placing_of (flat_schedule s)

  abbrev pub visit : Instance → Path
  visit i = (turn_of g i).visit

  pub sides : HasSides g t at
  sides = sides_kept g s once keeps t law fits

  pub same : Flattens (StandsOnce s) at flat
  same = flattens s

  pub stands : (i : Instance) → IsStep g t i → StandsOnce s i.attribute
  stands i step = step_stands g s law once t fits i step

  pub there : (i : Instance) → IsStep g t i → Has t (visit i)
  there i step = visit_there g (outer_schedule s) t law once fits 0 i step

  -- two steps of one outer pass: both of its own list, or both of its nest
  abbrev pub BothOwn : Instance → Instance → Type 0
  BothOwn i j = (at.host i.attribute ≡ None) × (at.host j.attribute ≡ None)

  pub own_moves : (kind : PassKind) (i j : Instance) → IsStep g t i → IsStep g t j → BothOwn i j
      → FirstInPass kind at.outer (turn_of g i) (turn_of g j) → FirstInPass kind flat (turn_of g i) (turn_of g j)
  own_moves kind i j step_i step_j own first =
      first_moves at.outer flat kind (turn_of g i) (turn_of g j) (same.own_index i.attribute (stands i step_i) own.0)
      (same.own_index j.attribute (stands j step_j) own.1) first

  pub inner_moves : (kind : PassKind) (i j : Instance) (h k : ℕ) → IsStep g t i → IsStep g t j
      → at.host i.attribute ≡ Some h → at.host j.attribute ≡ Some k
      → FirstInPass kind at.inner (turn_of g i) (turn_of g j) → FirstInPass kind flat (turn_of g i) (turn_of g j)
  inner_moves kind i j h k step_i step_j of_i of_j first =
      first_moves at.inner flat kind (turn_of g i) (turn_of g j) (same.inner_index i.attribute h (stands i step_i) of_i)
      (same.inner_index j.attribute k (stands j step_j) of_j) first

  -- the inner passes of two steps of one are of one kind
  pub inner_one_kind : (i j : Instance) (h k : ℕ) → IsStep g t i → IsStep g t j
      → IsOnePass (at.outer i.attribute) (at.outer j.attribute)
      → at.host i.attribute ≡ Some h → at.host j.attribute ≡ Some k
      → IsOnePass (at.inner i.attribute) (at.inner j.attribute)
      → (at.inner i.attribute).kind ≡ (at.inner j.attribute).kind
  inner_one_kind i j h k step_i step_j pass of_i of_j inner_pass =
      sym (same.inner_kind i.attribute h (stands i step_i) of_i)
      ∙ placing_of-one_kind (flat_schedule s) i.attribute j.attribute
      (same.inner_pass i.attribute j.attribute h k (stands i step_i) (stands j step_j) pass of_i of_j inner_pass)
      ∙ same.inner_kind j.attribute k (stands j step_j) of_j

  -- where a host of one step is over another of its pass, it is that one's host
  pub host_over : (i r : Instance) (h k : ℕ) → IsStep g t i → IsStep g t r
      → IsOnePass (at.outer i.attribute) (at.outer r.attribute)
      → at.host i.attribute ≡ Some h → at.host r.attribute ≡ Some k
      → is_over t (nearest t k (visit r)) (visit i) ≡ true → IsHost t h (nearest t k (visit r)) (visit i)
  host_over i r h k step_i step_r pass of_i of_r over =
      let host = nearest_host g t law fits at sides r k step_r of_r in
      record {
        there = host.there;
        of_class = host.of_class ∙ sym (sides.one_nest i.attribute r.attribute h k pass of_i of_r);
        holds = of_over t (nearest t k (visit r)) (visit i) host.there (there i step_i) over;
      }

  -- a step of the own list that is over a hosted one is over its host
  pub own_over : (r i : Instance) (k : ℕ) (h : Path) → IsStep g t r → IsStep g t i
      → IsOnePass (at.outer r.attribute) (at.outer i.attribute) → at.host r.attribute ≡ None
      → at.host i.attribute ≡ Some k → IsHost t k h (visit i) → is_over t (visit r) (visit i) ≡ true
      → AtOrAbove (visit r) h
  own_over r i k h step_r step_i pass own of_i host over =
      ⊎_elim (λ e. inl e)
      (λ other. ⊎_elim (λ up. inr up)
      (λ down. absurd (own_below_none g t law fits at sides r i step_r pass own k of_i h host.of_class down)) other)
      (comparable (visit r) h (visit i) (of_over t (visit r) (visit i) (there r step_r) (there i step_i) over) host.holds)

  module _ (r : Instance) (step_r : IsStep g t r) where
    near_moves : (kind : PassKind) (i j : Instance) → IsStep g t i → IsStep g t j
        → FirstInPass kind flat (turn_of g i) (turn_of g j)
        → is_near kind t (visit j) (visit r) ≡ true → is_near kind t (visit i) (visit r) ≡ true
    near_moves kind i j step_i step_j first near =
        near_first g (flat_schedule s) t r law (flat_once g s law once) fits step_r kind i j step_i step_j first near

    -- in the inner stages of one nest
    inner_closed : (i j : Instance) (h k m : ℕ) → IsStep g t i → IsStep g t j
        → IsOnePass (at.outer i.attribute) (at.outer j.attribute)
        → IsOnePass (at.outer j.attribute) (at.outer r.attribute)
        → at.host i.attribute ≡ Some h → at.host j.attribute ≡ Some k → at.host r.attribute ≡ Some m
        → TurnPrecedes at.inner (turn_of g i) (turn_of g j) → is_early g at.inner t r j ≡ true
        → is_early g at.inner t r i ≡ true
    inner_closed i j h k m step_i step_j pass_i pass_j of_i of_j of_r first early =
        (early_tells g t r i at.inner).1
        (⊎_elim
        (λ less.
        inl
        (⊎_elim (λ l. let z : (at.inner i.attribute).stage < (at.inner r.attribute).stage = omega (arith, l, less) in z)
        (λ here. let e = here.0.0 in let z : (at.inner i.attribute).stage < (at.inner r.attribute).stage = omega (arith, e, less) in z)
        first))
        (λ one.
        ⊎_elim (λ l. let e = one.0.0 in inl (omega (arith, l, e)))
        (λ here.
        let kind = inner_one_kind j r k m step_j step_r pass_j of_j of_r one.0 in
        inr (
          (here.0.0 ∙ one.0.0, here.0.1 ∙ one.0.1),
          near_moves (at.inner r.attribute).kind i j step_i step_j
              (inner_moves (at.inner r.attribute).kind i j h k step_i step_j of_i of_j
              (subst (λ k. FirstInPass k at.inner (turn_of g i) (turn_of g j)) kind here.1)) one.1,
        )) first)
        ((early_tells g t r j at.inner).0 early))

    -- in one outer pass
    in_pass : (kind : PassKind) (hi hj hr : Option ℕ) (i j : Instance) → IsStep g t i → IsStep g t j
        → at.host i.attribute ≡ hi → at.host j.attribute ≡ hj → at.host r.attribute ≡ hr
        → IsOnePass (at.outer i.attribute) (at.outer j.attribute)
        → IsOnePass (at.outer j.attribute) (at.outer r.attribute)
        → HostedFirst t hi hj kind at (turn_of g i) (turn_of g j)
        → is_early_in g at t kind hj hr r j ≡ true → is_early_in g at t kind hi hr r i ≡ true
    in_pass kind None None None i j step_i step_j of_i of_j of_r pass_i pass_j first early =
        near_moves kind i j step_i step_j (own_moves kind i j step_i step_j (of_i, of_j) first) early
    in_pass kind (Some h) None None i j step_i step_j of_i of_j of_r pass_i pass_j first early =
        let over_j : is_over t (visit r) (visit j) ≡ true =
        subst (λ k. is_near k t (visit j) (visit r) ≡ true) first.0 early in
        let host = first.2 in
        and_from (is_bottomup kind) (is_over t (visit r) (visit i)) (ap is_bottomup first.0)
        (over_chain t (visit r) (visit j) (visit i) (there r step_r) (there j step_j) over_j
        (over_chain t (visit j) first.1 (visit i) (there j step_j) host.there
        (over_of t (visit j) first.1 host.there first.3) (over_of t first.1 (visit i) (there i step_i) host.holds)))
    in_pass kind None (Some k) None i j step_i step_j of_i of_j of_r pass_i pass_j first early =
        let e = and_parts (is_bottomup kind) (is_over t (visit r) (visit j)) early in
        absurd (not_both kind first.0 (bottomup_is kind e.0))
    in_pass kind (Some h) (Some k) None i j step_i step_j of_i of_j of_r pass_i pass_j first early =
        let e = and_parts (is_bottomup kind) (is_over t (visit r) (visit j)) early in
        let up = own_over r j k first.0 step_r step_j (sym pass_j.0, sym pass_j.1) of_r of_j first.2 e.1 in
        let host = first.1 in
        and_from (is_bottomup kind) (is_over t (visit r) (visit i)) e.0
        (over_chain t (visit r) first.0 (visit i) (there r step_r) host.there
        (over_of t (visit r) first.0 host.there up) (over_of t first.0 (visit i) (there i step_i) host.holds))
    in_pass kind None None (Some m) i j step_i step_j of_i of_j of_r pass_i pass_j first early =
        let e = and_parts (is_topdown kind) (is_over t (visit j) (visit r)) early in
        and_from (is_topdown kind) (is_over t (visit i) (visit r)) e.0
        (near_moves topdown i j step_i step_j
        (own_moves topdown i j step_i step_j (of_i, of_j)
        (subst (λ k. FirstInPass k at.outer (turn_of g i) (turn_of g j)) (topdown_is kind e.0) first)) e.1)
    in_pass kind (Some h) None (Some m) i j step_i step_j of_i of_j of_r pass_i pass_j first early =
        let e = and_parts (is_topdown kind) (is_over t (visit j) (visit r)) early in
        absurd (not_both kind (topdown_is kind e.0) first.0)
    in_pass kind None (Some k) (Some m) i j step_i step_j of_i of_j of_r pass_i pass_j first early =
        let e = and_parts (is_over t (nearest t m (visit r)) (visit j)) (is_early g at.inner t r j) early in
        let host = nearest_host g t law fits at sides r m step_r of_r in
        let one = one_host g t fits k (sides.closed j.attribute k of_j) first.1 (nearest t m (visit r)) (visit j) first.2
        (host_over j r k m step_j step_r pass_j of_j of_r e.0) in
        and_from (is_topdown kind) (is_over t (visit i) (visit r)) (ap is_topdown first.0)
        (over_chain t (visit i) (nearest t m (visit r)) (visit r) (there i step_i) host.there
        (over_of t (visit i) (nearest t m (visit r)) host.there (subst (AtOrAbove (visit i)) one first.3))
        (over_of t (nearest t m (visit r)) (visit r) (there r step_r) host.holds))
    in_pass kind (Some h) (Some k) (Some m) i j step_i step_j of_i of_j of_r pass_i pass_j first early =
        let e = and_parts (is_over t (nearest t m (visit r)) (visit j)) (is_early g at.inner t r j) early in
        let one = one_host g t fits k (sides.closed j.attribute k of_j) first.0 (nearest t m (visit r)) (visit j) first.2
        (host_over j r k m step_j step_r pass_j of_j of_r e.0) in
        let host = first.1 in
        and_from (is_over t (nearest t m (visit r)) (visit i)) (is_early g at.inner t r i)
        (over_of t (nearest t m (visit r)) (visit i) (there i step_i) (subst (λ p. AtOrAbove p (visit i)) one host.holds))
        (inner_closed i j h k m step_i step_j pass_i pass_j of_i of_j of_r first.3 e.1)

    pub early_closed : IsClosed g t (MustPrecedeWithNests g t at) (is_early_with_nests g at t r)
    early_closed i j step_i step_j first early =
        (nest_early_tells g t r i at).1
        (⊎_elim
        (λ less.
        inl
        (⊎_elim (λ l. let z : (at.outer i.attribute).stage < (at.outer r.attribute).stage = omega (arith, l, less) in z)
        (λ here. let e = here.0.0 in let z : (at.outer i.attribute).stage < (at.outer r.attribute).stage = omega (arith, e, less) in z)
        first))
        (λ one.
        ⊎_elim (λ l. let e = one.0.0 in inl (omega (arith, l, e)))
        (λ here.
        let kind = placing_of-one_kind (outer_schedule s) j.attribute r.attribute one.0 in
        inr (
          (here.0.0 ∙ one.0.0, here.0.1 ∙ one.0.1),
          in_pass (at.outer r.attribute).kind (at.host i.attribute) (at.host j.attribute) (at.host r.attribute) i j step_i
              step_j refl refl refl here.0 one.0
              (subst (λ k. HostedFirst t (at.host i.attribute) (at.host j.attribute) k at (turn_of g i) (turn_of g j)) kind
              here.1) one.1,
        )) first)
        ((nest_early_tells g t r j at).0 early))

    self_in : (kind : PassKind) (hr : Option ℕ) → at.host r.attribute ≡ hr → is_early_in g at t kind hr hr r r ≡ true
    self_in kind None of_r = near_self g (flat_schedule s) t r law (flat_once g s law once) fits step_r kind
    self_in kind (Some m) of_r =
        let host = nearest_host g t law fits at sides r m step_r of_r in
        and_from (is_over t (nearest t m (visit r)) (visit r)) (is_early g at.inner t r r)
        (over_of t (nearest t m (visit r)) (visit r) (there r step_r) host.holds)
        ((early_tells g t r r at.inner).1
        (inr (
          (refl, refl),
          near_self g (flat_schedule s) t r law (flat_once g s law once) fits step_r (at.inner r.attribute).kind,
        )))

    pub early_self : is_early_with_nests g at t r r ≡ true
    early_self =
        (nest_early_tells g t r r at).1
        (inr ((refl, refl), self_in (at.outer r.attribute).kind (at.host r.attribute) refl))
