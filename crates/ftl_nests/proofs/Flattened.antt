-- The flat schedule has each attribute where the one with nests has it, seen from the others.
use Rattle.std.proofs.Common.{◌≡◌, ℕ, ◌+◌, ◌<◌, Bool, true, false, if◌then◌else◌, refl, sym, ◌∙◌, ap, ap₂, subst, arith, [], get_or, Option, None, Some}
use Rattle.ftl_model.specs.lists.Lists.{is_listed, place_in}
use Rattle.ftl_order.specs.orders.Schedule.{PassKind, topdown, bottomup, inorder, Pass, SchedulePlace, Placing, IsOnePass, entries, stage_of, pass_in_stage, placing_of}
use Rattle.ftl_nests.specs.Nests.{Nest, NestingPass, NestingSchedule, inner_stages, host_of, outer_schedule, nesting_pass, home_pass, NestPlacing, nest_placing_of}
use Rattle.ftl_nests.specs.Flat.{alone_stage, each_alone, flat_pass, flat_stage, flat_schedule}
use Rattle.ftl_nests.proofs.JoinedSchedules.{lists, stage_within, before}
use Rattle.ftl_nests.proofs.FlatLists.{either, is_listed-append, listed-entries, lists-each_alone, lists-flat_pass, place-append}
use Rattle.ftl_nests.proofs.Sides.{outer_pass_at}
use Rattle.ftl_items.proofs.stage_items.Passes.{many}
use Rattle.ftl_nests.proofs.FlatCounts.{not_there, at_most_all, not_in_both}
use Rattle.ftl_nests.proofs.FlatPlaces.{place_each_alone, alone_number, alone_numbers_rise, own_offset, inner_offset, own_at, inner_place_at, inner_at, in_pass, flat_own, flat_inner, among, behind}

-- what proofs ask of a flat placing that stands for one with nests, at the attributes that stand once
pub record Flattens (In : ℕ → Type 0) (at : NestPlacing) (flat : Placing) : Type 0 where
  pub stages : (a b : ℕ) → In a → In b → (at.outer a).stage < (at.outer b).stage → (flat a).stage < (flat b).stage
  pub own_pass :
      (a b : ℕ) → In a → In b → IsOnePass (at.outer a) (at.outer b) → at.host a ≡ None → at.host b ≡ None
      → IsOnePass (flat a) (flat b)
  pub own_kind : (a : ℕ) → In a → at.host a ≡ None → (flat a).kind ≡ (at.outer a).kind
  pub own_index : (a : ℕ) → In a → at.host a ≡ None → (flat a).index ≡ (at.outer a).index
  pub inner_stages :
      (a b h k : ℕ) → In a → In b → IsOnePass (at.outer a) (at.outer b) → at.host a ≡ Some h → at.host b ≡ Some k
      → (at.inner a).stage < (at.inner b).stage → (flat a).stage < (flat b).stage
  pub inner_pass :
      (a b h k : ℕ) → In a → In b → IsOnePass (at.outer a) (at.outer b) → at.host a ≡ Some h → at.host b ≡ Some k
      → IsOnePass (at.inner a) (at.inner b) → IsOnePass (flat a) (flat b)
  pub inner_kind : (a k : ℕ) → In a → at.host a ≡ Some k → (flat a).kind ≡ (at.inner a).kind
  pub inner_index : (a k : ℕ) → In a → at.host a ≡ Some k → (flat a).index ≡ (at.inner a).index
  pub own_first :
      (a b k : ℕ) → In a → In b → IsOnePass (at.outer a) (at.outer b) → (at.outer b).kind ≡ topdown
      → at.host a ≡ None → at.host b ≡ Some k → (flat a).stage < (flat b).stage
  pub inner_first :
      (a b k : ℕ) → In a → In b → IsOnePass (at.outer a) (at.outer b) → (at.outer b).kind ≡ bottomup
      → at.host a ≡ Some k → at.host b ≡ None → (flat a).stage < (flat b).stage

no_nest : (nest : Option Nest) (a : ℕ) → host_of nest ≡ None → lists (inner_stages nest) a ≡ false
no_nest None a e = refl
no_nest (Some nest) a e = absurd (let z : ⊥ = grind arith in z)

module _ (s : NestingSchedule) where
  abbrev pub StandsOnce : ℕ → Type 0
  StandsOnce a = many a (entries (outer_schedule s)) ≡ 1

  pub is_there : (a : ℕ) → StandsOnce a → lists (outer_schedule s) a ≡ true
  is_there a once = sym (listed-entries (outer_schedule s) a) ∙ go (is_listed (entries (outer_schedule s)) a) refl
    where
      go : (b : Bool) → is_listed (entries (outer_schedule s)) a ≡ b → is_listed (entries (outer_schedule s)) a ≡ true
      go true e = e
      go false e = let z = not_there a (entries (outer_schedule s)) e in absurd (omega (arith, z, once))

  in_whole : (a : ℕ) → StandsOnce a
      → either (is_listed (home_pass s a).attributes a) (lists (inner_stages (home_pass s a).nest) a) ≡ true
  in_whole a once =
      ap (either (is_listed (home_pass s a).attributes a)) (sym (listed-entries (inner_stages (home_pass s a).nest) a))
      ∙ sym (is_listed-append (home_pass s a).attributes (entries (inner_stages (home_pass s a).nest)) a)
      ∙ sym (lists-flat_pass (home_pass s a) a)
      ∙ (in_pass s a (is_there a once)).listed

  own_side : (a : ℕ) → StandsOnce a → (nest_placing_of s).host a ≡ None
      → (is_listed (home_pass s a).attributes a ≡ true) × (lists (inner_stages (home_pass s a).nest) a ≡ false)
  own_side a once host =
      let own = go (is_listed (home_pass s a).attributes a) refl host (in_whole a once) in (
        own,
        sym (listed-entries (inner_stages (home_pass s a).nest) a)
            ∙ not_in_both a (home_pass s a)
            (let few = at_most_all a s (stage_of (outer_schedule s) a) (pass_in_stage (outer_schedule s) a) in
            omega (arith, few, once)) own,
      )
    where
      go : (b : Bool) → is_listed (home_pass s a).attributes a ≡ b
          → (if b then None else host_of (home_pass s a).nest) ≡ None
          → either b (lists (inner_stages (home_pass s a).nest) a) ≡ true
          → is_listed (home_pass s a).attributes a ≡ true
      go true e h whole = e
      go false e h whole =
          let z = no_nest (home_pass s a).nest a h in absurd (let y : ⊥ = grind (arith, z, whole) in y)

  pub inner_side : (a k : ℕ) → StandsOnce a → (nest_placing_of s).host a ≡ Some k
      → (is_listed (home_pass s a).attributes a ≡ false) × (lists (inner_stages (home_pass s a).nest) a ≡ true)
  inner_side a k once host = go (is_listed (home_pass s a).attributes a) refl host (in_whole a once)
    where
      go : (b : Bool) → is_listed (home_pass s a).attributes a ≡ b
          → (if b then None else host_of (home_pass s a).nest) ≡ Some k
          → either b (lists (inner_stages (home_pass s a).nest) a) ≡ true
          → (is_listed (home_pass s a).attributes a ≡ false) × (lists (inner_stages (home_pass s a).nest) a ≡ true)
      go true e h whole = absurd (let z : ⊥ = grind arith in z)
      go false e h whole = (e, whole)

  -- the spots, at the outer pass of another attribute that stands in the same
  own_flat : (a b : ℕ) → StandsOnce a → (nest_placing_of s).host a ≡ None
      → IsOnePass (placing_of (outer_schedule s) a) (placing_of (outer_schedule s) b)
      → placing_of (flat_schedule s) a
      ≡ own_at s (stage_of (outer_schedule s) b) (pass_in_stage (outer_schedule s) b) a
  own_flat a b once host one =
      let side = own_side a once host in
      flat_own s a (is_there a once) side.0 side.1 ∙ ap₂ (λ m n. own_at s m n a) one.0 one.1

  inner_flat : (a b k : ℕ) → StandsOnce a → (nest_placing_of s).host a ≡ Some k
      → IsOnePass (placing_of (outer_schedule s) a) (placing_of (outer_schedule s) b)
      → placing_of (flat_schedule s) a
      ≡ inner_at s (stage_of (outer_schedule s) b) (pass_in_stage (outer_schedule s) b) a
  inner_flat a b k once host one =
      let side = inner_side a k once host in
      flat_inner s a (is_there a once) side.0 side.1 ∙ ap₂ (λ m n. inner_at s m n a) one.0 one.1

  inner_listed : (a b k : ℕ) → StandsOnce a → (nest_placing_of s).host a ≡ Some k
      → IsOnePass (placing_of (outer_schedule s) a) (placing_of (outer_schedule s) b)
      → lists (inner_stages (home_pass s b).nest) a ≡ true
  inner_listed a b k once host one =
      subst (λ (p : NestingPass). lists (inner_stages p.nest) a ≡ true)
      (ap₂ (λ m n. nesting_pass s m n) one.0 one.1) (inner_side a k once host).1

  inner_place : (a b : ℕ) → IsOnePass (placing_of (outer_schedule s) a) (placing_of (outer_schedule s) b)
      → (nest_placing_of s).inner a
      ≡ inner_place_at s (stage_of (outer_schedule s) b) (pass_in_stage (outer_schedule s) b) a
  inner_place a b one = ap₂ (λ m n. inner_place_at s m n a) one.0 one.1

  outer_kind : (a : ℕ) → (placing_of (outer_schedule s) a).kind ≡ (home_pass s a).kind
  outer_kind a =
      ap (λ (p : Pass). p.kind) (outer_pass_at s (stage_of (outer_schedule s) a) (pass_in_stage (outer_schedule s) a))

  stage_is : SchedulePlace → ℕ
  stage_is x = x.stage

  -- an inner stage comes before the own list of a bottomup pass
  inner_before_own : (pass : NestingPass) (a : ℕ) → pass.kind ≡ bottomup → lists (inner_stages pass.nest) a ≡ true
      → inner_offset pass.kind pass (alone_number (inner_stages pass.nest) (placing_of (inner_stages pass.nest) a))
      < own_offset pass.kind pass
  inner_before_own pass a kind inner =
      subst (λ k. inner_offset k pass (alone_number (inner_stages pass.nest) (placing_of (inner_stages pass.nest) a))
      < own_offset k pass) (sym kind)
      (let within = stage_within (each_alone (inner_stages pass.nest)) a
      (lists-each_alone (inner_stages pass.nest) a ∙ inner) in
      let is = ap (λ (x : SchedulePlace). x.stage) (place_each_alone (inner_stages pass.nest) a inner) in
      omega (arith, within, is))

  own_before_inner : (pass : NestingPass) (x : ℕ) → pass.kind ≡ topdown
      → own_offset pass.kind pass < inner_offset pass.kind pass x
  own_before_inner pass x kind = subst (λ k. own_offset k pass < inner_offset k pass x) (sym kind) (omega arith)

  inner_rises : (kind : PassKind) (pass : NestingPass) (x y : ℕ) → x < y
      → inner_offset kind pass x < inner_offset kind pass y
  inner_rises topdown pass x y less = omega (arith, less)
  inner_rises bottomup pass x y less = less
  inner_rises inorder pass x y less = omega (arith, less)

  pub flattens : Flattens StandsOnce (nest_placing_of s) (placing_of (flat_schedule s))
  flattens =
      record {
        stages = λ a b ia ib less.
            let up = among s a (is_there a ia) b (is_there b ib) less in
            let low = behind s b (is_there b ib) in
            omega (arith, up, low);
        own_pass = λ a b ia ib one ha hb.
            let x = own_flat a b ia ha one in
            let y = own_flat b b ib hb (refl, refl) in
            (ap (λ (z : SchedulePlace). z.stage) (x) ∙ sym (ap (λ (z : SchedulePlace). z.stage) y), ap (λ (z : SchedulePlace). z.pass) x ∙ sym (ap (λ (z : SchedulePlace). z.pass) y));
        own_kind = λ a ia ha.
            ap (λ (z : SchedulePlace). z.kind) (own_flat a a ia ha (refl, refl)) ∙ sym (outer_kind a);
        own_index = λ a ia ha.
            ap (λ (z : SchedulePlace). z.index) (own_flat a a ia ha (refl, refl))
            ∙ sym (place-append (home_pass s a).attributes (entries (inner_stages (home_pass s a).nest)) a
            (own_side a ia ha).0)
            ∙ sym (ap (λ (p : Pass). place_in p.attributes a)
            (outer_pass_at s (stage_of (outer_schedule s) a) (pass_in_stage (outer_schedule s) a)));
        inner_stages = λ a b h k ia ib one ha hb less.
            let x = ap (λ (z : SchedulePlace). z.stage) (inner_flat a b h ia ha one) in
            let y = ap (λ (z : SchedulePlace). z.stage) (inner_flat b b k ib hb (refl, refl)) in
            let p = home_pass s b in
            let ax = placing_of (inner_stages p.nest) a in
            let bx = placing_of (inner_stages p.nest) b in
            let up : ax.stage < bx.stage = subst (λ (z : SchedulePlace). z.stage < bx.stage) (inner_place a b one) less in
            let rise = inner_rises p.kind p (alone_number (inner_stages p.nest) ax) (alone_number (inner_stages p.nest) bx)
            (alone_numbers_rise (inner_stages p.nest) a b (inner_listed a b h ia ha one) up) in
            omega (arith, x, y, rise);
        inner_pass = λ a b h k ia ib one ha hb same.
            let x = inner_flat a b h ia ha one in
            let y = inner_flat b b k ib hb (refl, refl) in
            let p = home_pass s b in
            let ax = placing_of (inner_stages p.nest) a in
            let bx = placing_of (inner_stages p.nest) b in
            let is = inner_place a b one in
            let e : alone_number (inner_stages p.nest) ax ≡ alone_number (inner_stages p.nest) bx =
            ap₂ (λ m n. before alone_stage (inner_stages p.nest) m + n)
            (sym (ap (λ (z : SchedulePlace). z.stage) is) ∙ same.0) (sym (ap (λ (z : SchedulePlace). z.pass) is) ∙ same.1) in (
              ap (λ (z : SchedulePlace). z.stage) x
                  ∙ ap (λ r. before flat_stage s (stage_of (outer_schedule s) b)
                  + (before flat_pass (get_or s (stage_of (outer_schedule s) b) []) (pass_in_stage (outer_schedule s) b)
                  + inner_offset p.kind p r)) e
                  ∙ sym (ap (λ (z : SchedulePlace). z.stage) y),
              ap (λ (z : SchedulePlace). z.pass) x ∙ sym (ap (λ (z : SchedulePlace). z.pass) y),
            );
        inner_kind = λ a k ia ha. ap (λ (z : SchedulePlace). z.kind) (inner_flat a a k ia ha (refl, refl));
        inner_index = λ a k ia ha. ap (λ (z : SchedulePlace). z.index) (inner_flat a a k ia ha (refl, refl));
        own_first = λ a b k ia ib one kind ha hb.
            let x = ap (λ (z : SchedulePlace). z.stage) (own_flat a b ia ha one) in
            let y = ap (λ (z : SchedulePlace). z.stage) (inner_flat b b k ib hb (refl, refl)) in
            let p = home_pass s b in
            let up = own_before_inner p (alone_number (inner_stages p.nest) (placing_of (inner_stages p.nest) b))
            (sym (outer_kind b) ∙ kind) in
            omega (arith, x, y, up);
        inner_first = λ a b k ia ib one kind ha hb.
            let x = ap (λ (z : SchedulePlace). z.stage) (inner_flat a b k ia ha one) in
            let y = ap (λ (z : SchedulePlace). z.stage) (own_flat b b ib hb (refl, refl)) in
            let p = home_pass s b in
            let up = inner_before_own p a (sym (outer_kind b) ∙ kind) (inner_listed a b k ia ha one) in
            omega (arith, x, y, up);
      }
