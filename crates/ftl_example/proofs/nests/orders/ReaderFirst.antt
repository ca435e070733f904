-- Where the early steps come first, a step stands before each that need not come before it, also where passes have nests.
use Rattle.std.proofs.Common.{◌≡◌, ◌⊎◌, ℕ, true, refl, sym, ◌∙◌, subst, inl, inr, ⊎_elim, arith, Option, None, Some}
use Rattle.std.proofs.lemmas.Bool.{and_parts}
use Rattle.ftl_model.specs.lists.Lists.{StandsBefore}
use Rattle.ftl_model.specs.layout.AttributeGrammar.{AttributeGrammar}
use Rattle.ftl_model.specs.layout.Path.{Path}
use Rattle.ftl_model.specs.layout.Solves.{Instance}
use Rattle.ftl_model.specs.layout.Tree.{Forest}
use Rattle.ftl_model.specs.layout.TreeOf.{IsTreeOf}
use Rattle.ftl_order.specs.orders.Lawful.{IsLawful}
use Rattle.ftl_order.specs.orders.LegalOrder.{FirstInPass, IsStep, MustPrecede, turn_of}
use Rattle.ftl_order.specs.orders.Schedule.{EachStandsOnce, IsOnePass, PassKind, Placing, placing_of}
use Rattle.ftl_example.specs.orders.EarlyVisits.{is_early, is_near, is_over}
use Rattle.ftl_example.specs.orders.PlainOrder.{plain_order}
use Rattle.ftl_example.proofs.orders.Parted.{before_early, early_kept, no_twice, parted_once}
use Rattle.ftl_example.proofs.orders.Plain.{plain_ahead, plain_legal}
use Rattle.ftl_example.proofs.orders.ReaderFirst.{later}
use Rattle.ftl_nests.specs.Flat.{flat_schedule}
use Rattle.ftl_nests.specs.Hosted.{HostedFirst, MustPrecedeWithNests, nearest}
use Rattle.ftl_nests.specs.NestLaws.{IsLegalWithNests}
use Rattle.ftl_nests.specs.Nests.{AreSidesKept, NestPlacing, NestingSchedule, nest_placing_of, outer_schedule}
use Rattle.ftl_nests.proofs.FlatLaws.{flat_once, flat_order_legal, step_stands}
use Rattle.ftl_nests.proofs.FlatOrder.{first_moves}
use Rattle.ftl_nests.proofs.Flattened.{Flattens, StandsOnce, flattens}
use Rattle.ftl_nests.proofs.HostedOrder.{nearest_host}
use Rattle.ftl_nests.proofs.Sides.{sides_kept}
use Rattle.ftl_nests.proofs.Writers.{HasSides}
use Rattle.ftl_regions.specs.pairs.NestReads.{is_bottomup, is_topdown}
use Rattle.ftl_example.specs.nests.orders.EarlyWithNests.{early_first_with_nests, is_early_in, is_early_with_nests}
use Rattle.ftl_example.specs.nests.orders.NestOrders.{plain_order_with_nests}
use Rattle.ftl_example.proofs.nests.orders.EarlySteps.{early_closed, early_self, host_over, own_over}
use Rattle.ftl_example.proofs.nests.orders.EarlyTests.{bottomup_is, early_tells, nest_early_tells, topdown_is}

pub plain_legal_with_nests : (g : AttributeGrammar) (s : NestingSchedule) (t : Forest) → IsLawful g
    → EachStandsOnce g (outer_schedule s) → IsTreeOf g t → IsLegalWithNests g s t (plain_order_with_nests g s t)
plain_legal_with_nests g s t law once fits =
    flat_order_legal g s law once t fits (plain_order g (flat_schedule s) t)
    (plain_legal g (flat_schedule s) t law (flat_once g s law once) fits)

module _ (g : AttributeGrammar) (s : NestingSchedule) (t : Forest) (law : IsLawful g)
    (once : EachStandsOnce g (outer_schedule s)) (keeps : AreSidesKept g s) (fits : IsTreeOf g t)
    (r w : Instance) (step_r : IsStep g t r) (step_w : IsStep g t w) where
  abbrev at : NestPlacing
  at = nest_placing_of s

  abbrev flat : Placing
  flat = placing_of (flat_schedule s)

  abbrev visit : Instance → Path
  visit i = (turn_of g i).visit

  sides : HasSides g t at
  sides = sides_kept g s once keeps t law fits

  same : Flattens (StandsOnce s) at flat
  same = flattens s

  stands_r : StandsOnce s r.attribute
  stands_r = step_stands g s law once t fits r step_r

  stands_w : StandsOnce s w.attribute
  stands_w = step_stands g s law once t fits w step_w

  -- w is r, or r must come before it in the flat schedule
  abbrev Later : Type 0
  Later = (w ≡ r) ⊎ MustPrecede g t (flat_schedule s) r w

  by_flat : (kind : PassKind) → IsOnePass (flat w.attribute) (flat r.attribute) → (flat r.attribute).kind ≡ kind
      → (FirstInPass kind flat (turn_of g w) (turn_of g r) → ⊥)
      → is_near kind t (visit w) (visit r) ≡ true → Later
  by_flat kind pass is none near =
      later g (flat_schedule s) t law (flat_once g s law once) fits r w step_r step_w
      (λ first.
      ⊎_elim (λ less. let e = pass.0 in let z : ⊥ = omega (arith, less, e) in z)
      (λ here. none (subst (λ k. FirstInPass k flat (turn_of g w) (turn_of g r)) is here.1)) first)
      ((early_tells g t r w flat).1
      (inr (pass, subst (λ k. is_near k t (visit w) (visit r) ≡ true) (sym is) near)))

  in_pass : (kind : PassKind) (hw hr : Option ℕ) → at.host w.attribute ≡ hw → at.host r.attribute ≡ hr
      → IsOnePass (at.outer w.attribute) (at.outer r.attribute) → (at.outer r.attribute).kind ≡ kind
      → (HostedFirst t hw hr kind at (turn_of g w) (turn_of g r) → ⊥)
      → is_early_in g at t kind hw hr r w ≡ true → Later
  in_pass kind None None of_w of_r pass is none near =
      by_flat kind (same.own_pass w.attribute r.attribute stands_w stands_r pass of_w of_r)
      (same.own_kind r.attribute stands_r of_r ∙ is)
      (λ first.
      none
      (first_moves flat at.outer kind (turn_of g w) (turn_of g r) (sym (same.own_index w.attribute stands_w of_w))
      (sym (same.own_index r.attribute stands_r of_r)) first)) near
  in_pass kind (Some h) (Some m) of_w of_r pass is none near =
      let e = and_parts (is_over t (nearest t m (visit r)) (visit w)) (is_early g at.inner t r w) near in
      let host_w = host_over g s t law once keeps fits w r h m step_w step_r pass of_w of_r e.0 in
      let host_r = nearest_host g t law fits at sides r m step_r of_r in
      ⊎_elim (λ less. absurd (none (nearest t m (visit r), host_w, host_r, inl less)))
      (λ one.
      by_flat (at.inner r.attribute).kind
      (same.inner_pass w.attribute r.attribute h m stands_w stands_r pass of_w of_r one.0)
      (same.inner_kind r.attribute m stands_r of_r)
      (λ first.
      none (
        nearest t m (visit r),
        host_w,
        host_r,
        inr (
          one.0,
          first_moves flat at.inner (at.inner r.attribute).kind (turn_of g w) (turn_of g r)
              (sym (same.inner_index w.attribute h stands_w of_w))
              (sym (same.inner_index r.attribute m stands_r of_r)) first,
        ),
      )) one.1) ((early_tells g t r w at.inner).0 e.1)
  in_pass kind None (Some m) of_w of_r pass is none near =
      let e = and_parts (is_topdown kind) (is_over t (visit w) (visit r)) near in
      let host_r = nearest_host g t law fits at sides r m step_r of_r in
      absurd
      (none (
        topdown_is kind e.0,
        nearest t m (visit r),
        host_r,
        own_over g s t law once keeps fits w r m (nearest t m (visit r)) step_w step_r pass of_w of_r host_r e.1,
      ))
  in_pass kind (Some h) None of_w of_r pass is none near =
      let e = and_parts (is_bottomup kind) (is_over t (visit r) (visit w)) near in
      let host_w = nearest_host g t law fits at sides w h step_w of_w in
      absurd
      (none (
        bottomup_is kind e.0,
        nearest t h (visit w),
        host_w,
        own_over g s t law once keeps fits r w h (nearest t h (visit w)) step_r step_w (sym pass.0, sym pass.1) of_r of_w
            host_w e.1,
      ))

  module _ (free : MustPrecedeWithNests g t at w r → ⊥) where
    later_with_nests : is_early_with_nests g at t r w ≡ true → Later
    later_with_nests e =
        ⊎_elim (λ less. absurd (free (inl less)))
        (λ one.
        in_pass (at.outer r.attribute).kind (at.host w.attribute) (at.host r.attribute) refl refl one.0 refl
        (λ first. free (inr (one.0, first))) one.1) ((nest_early_tells g t r w at).0 e)

    pub reader_first : StandsBefore (early_first_with_nests g s t r) w r → ⊥
    reader_first h =
        let order = plain_order_with_nests g s t in
        let legal = plain_legal_with_nests g s t law once fits in
        let closed = early_closed g s t law once keeps fits r step_r in
        let self = early_self g s t law once keeps fits r step_r in
        let test = is_early_with_nests g at t r in
        let First = MustPrecedeWithNests g t at in
        let early = before_early g t First order legal test closed w r self h in
        ⊎_elim (λ same. no_twice (early_first_with_nests g s t r) (parted_once g t First order legal test closed) w r h same)
        (λ first.
        early_kept g t First order legal test closed r w self early
        (plain_ahead g (flat_schedule s) t law (flat_once g s law once) fits r w step_r step_w first) h)
        (later_with_nests early)
