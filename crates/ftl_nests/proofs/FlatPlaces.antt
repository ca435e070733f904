-- Where an attribute stands in the flat schedule, by where it stands in the one with nests.
use Rattle.std.proofs.Common.{◌≡◌, ℕ, suc, ◌+◌, ◌<◌, ◌≤◌, true, false, if◌then◌else◌, refl, sym, ◌∙◌, ap, subst, arith, List, [], ◌∷◌, length, get_or}
use Rattle.ftl_model.specs.lists.Lists.{is_listed, place_in}
use Rattle.ftl_order.specs.orders.Schedule.{PassKind, topdown, bottomup, inorder, Pass, Schedule, SchedulePlace, pass_of, has_entry, stage_of, pass_in_stage, empty_pass, placing_of}
use Rattle.ftl_nests.specs.Nests.{NestingPass, NestingSchedule, inner_stages, outer_schedule, no_pass, nesting_pass, home_pass}
use Rattle.ftl_nests.specs.Flat.{alone_stage, each_alone, own_stage, flat_by, flat_pass, flat_stage, flat_schedule}
use Rattle.ftl_nests.proofs.JoinedSchedules.{lists, restage, later, place_here, place_next, place_left, place_right, stage_within, before, before_rises, StandsIn, stands_in}
use Rattle.ftl_nests.proofs.FlatLists.{either, lists-own, lists-alone, lists-each_alone, lists-flat, first_stage, first_pass, first_inner}
use Rattle.ftl_nests.proofs.Sides.{outer_stage_at}

-- the place_is in a stage of its own
abbrev pub alone_at : ℕ → SchedulePlace → SchedulePlace
alone_at n x = record { stage = n; pass = 0; kind = x.kind; index = x.index }

-- the place_is in stages that have one pass each
place_alone : (passes : List Pass) (zs : Schedule) (a : ℕ) → has_entry passes a ≡ true
    → placing_of (alone_stage passes) a
    ≡ (record {
      stage = pass_of passes a;
      pass = 0;
      kind = (get_or passes (pass_of passes a) empty_pass).kind;
      index = place_in (get_or passes (pass_of passes a) empty_pass).attributes a;
    })
place_alone [] zs a h = absurd (let z : ⊥ = grind arith in z)
place_alone (pass ∷ passes) zs a h =
    elim (is_listed pass.attributes a) as
    (λ b. (is_listed pass.attributes a ≡ b) → either b (has_entry passes a) ≡ true
    → placing_of (alone_stage (pass ∷ passes)) a
    ≡ (record {
      stage = if b then 0 else suc (pass_of passes a);
      pass = 0;
      kind = (get_or (pass ∷ passes) (if b then 0 else suc (pass_of passes a)) empty_pass).kind;
      index = place_in (get_or (pass ∷ passes) (if b then 0 else suc (pass_of passes a)) empty_pass).attributes a;
    })) [
      | true ↦ λ e h.
          place_here (pass ∷ []) (alone_stage passes) a (ap (λ b. either b false) e)
          ∙ ap
          (λ b.
          record {
            stage = 0;
            pass = if b then 0 else 1;
            kind = (get_or (pass ∷ []) (if b then 0 else 1) empty_pass).kind;
            index = place_in (get_or (pass ∷ []) (if b then 0 else 1) empty_pass).attributes a;
          })
          e
      | false ↦ λ e h.
          place_next (pass ∷ []) (alone_stage passes) a (ap (λ b. either b false) e)
          ∙ ap (λ (x : SchedulePlace). restage x (suc x.stage)) (place_alone passes zs a h)
    ]
    refl h

-- the inner schedule's stages before, and then the passes before
abbrev pub alone_number : Schedule → SchedulePlace → ℕ
alone_number s x = before alone_stage s x.stage + x.pass

pub place_each_alone : (s : Schedule) (a : ℕ) → lists s a ≡ true
    → placing_of (each_alone s) a ≡ alone_at (alone_number s (placing_of s a)) (placing_of s a)
place_each_alone s a h =
    let k = stage_of s a in
    let in_stage : StandsIn alone_stage s a k [] =
    subst (λ n. StandsIn alone_stage s a n []) (first_inner s a)
    (stands_in alone_stage s a [] (lists-each_alone s a ∙ h)) in
    in_stage.place_is
    ∙ ap (later (before alone_stage s k))
    (place_alone (get_or s k []) s a (sym (lists-alone (get_or s k []) a) ∙ in_stage.listed))

-- the place_is in its own list
pub own_place : (pass : NestingPass) (a : ℕ) → is_listed pass.attributes a ≡ true
    → placing_of (own_stage pass) a
    ≡ (record { stage = 0; pass = 0; kind = pass.kind; index = place_in pass.attributes a })
own_place pass a h = place_alone ((record { kind = pass.kind; attributes = pass.attributes }) ∷ []) [] a
    (ap (λ b. either b false) h)
    ∙ ap
    (λ b.
    record {
      stage = if b then 0 else 1;
      pass = 0;
      kind = (get_or ((record { kind = pass.kind; attributes = pass.attributes }) ∷ []) (if b then 0 else 1)
          empty_pass).kind;
      index = place_in (get_or ((record { kind = pass.kind; attributes = pass.attributes }) ∷ [])
          (if b then 0 else 1) empty_pass).attributes a;
    })
    h

pub alone_numbers_rise : (s : Schedule) (a b : ℕ) → lists s a ≡ true
    → (placing_of s a).stage < (placing_of s b).stage → alone_number s (placing_of s a) < alone_number s (placing_of s b)
alone_numbers_rise s a b h less =
    let k = stage_of s a in
    let passes = get_or s k [] in
    let in_stage : StandsIn alone_stage s a k [] =
    subst (λ n. StandsIn alone_stage s a n []) (first_inner s a)
    (stands_in alone_stage s a [] (lists-each_alone s a ∙ h)) in
    let up = before_rises alone_stage s k (stage_of s b) [] less in_stage.within in
    let within = stage_within (alone_stage passes) a in_stage.listed in
    let is = ap (λ (x : SchedulePlace). x.stage) (place_alone passes s a (sym (lists-alone passes a) ∙ in_stage.listed)) in
    omega (arith, up, within, is)

-- stages of the pass before its own list, and those before an inner stage
abbrev pub own_offset : PassKind → NestingPass → ℕ
own_offset topdown pass = 0
own_offset bottomup pass = length (each_alone (inner_stages pass.nest)) + 0
own_offset inorder pass = 0

abbrev pub inner_offset : PassKind → NestingPass → ℕ → ℕ
inner_offset topdown pass n = length (own_stage pass) + n
inner_offset bottomup pass n = n
inner_offset inorder pass n = length (own_stage pass) + n

own_in_pass : (kind : PassKind) (pass : NestingPass) (a : ℕ) → is_listed pass.attributes a ≡ true
    → lists (inner_stages pass.nest) a ≡ false
    → placing_of (flat_by kind pass) a
    ≡ (record { stage = own_offset kind pass; pass = 0; kind = pass.kind; index = place_in pass.attributes a })
own_in_pass topdown pass a own lacks =
    place_left (own_stage pass) (each_alone (inner_stages pass.nest)) a (lists-own pass a ∙ own) ∙ own_place pass a own
own_in_pass bottomup pass a own lacks =
    place_right (each_alone (inner_stages pass.nest)) (own_stage pass) a (lists-each_alone (inner_stages pass.nest) a ∙ lacks)
    ∙ ap (later (length (each_alone (inner_stages pass.nest)))) (own_place pass a own)
own_in_pass inorder pass a own lacks =
    place_left (own_stage pass) (each_alone (inner_stages pass.nest)) a (lists-own pass a ∙ own) ∙ own_place pass a own

inner_in_pass : (kind : PassKind) (pass : NestingPass) (a : ℕ) → is_listed pass.attributes a ≡ false
    → lists (inner_stages pass.nest) a ≡ true
    → placing_of (flat_by kind pass) a
    ≡ alone_at
    (inner_offset kind pass (alone_number (inner_stages pass.nest) (placing_of (inner_stages pass.nest) a)))
    (placing_of (inner_stages pass.nest) a)
inner_in_pass topdown pass a lacks inner =
    place_right (own_stage pass) (each_alone (inner_stages pass.nest)) a (lists-own pass a ∙ lacks)
    ∙ ap (later (length (own_stage pass))) (place_each_alone (inner_stages pass.nest) a inner)
inner_in_pass bottomup pass a lacks inner =
    place_left (each_alone (inner_stages pass.nest)) (own_stage pass) a (lists-each_alone (inner_stages pass.nest) a ∙ inner)
    ∙ place_each_alone (inner_stages pass.nest) a inner
inner_in_pass inorder pass a lacks inner =
    place_right (own_stage pass) (each_alone (inner_stages pass.nest)) a (lists-own pass a ∙ lacks)
    ∙ ap (later (length (own_stage pass))) (place_each_alone (inner_stages pass.nest) a inner)

-- the place_is of an attribute of the own list, or of the nest, of the pass at these numbers
abbrev pub own_at : NestingSchedule → (m n a : ℕ) → SchedulePlace
own_at s m n a =
    record {
      stage = before flat_stage s m
          + (before flat_pass (get_or s m []) n + own_offset (nesting_pass s m n).kind (nesting_pass s m n));
      pass = 0;
      kind = (nesting_pass s m n).kind;
      index = place_in (nesting_pass s m n).attributes a;
    }

abbrev pub inner_place_at : NestingSchedule → (m n a : ℕ) → SchedulePlace
inner_place_at s m n a = placing_of (inner_stages (nesting_pass s m n).nest) a

abbrev pub inner_at : NestingSchedule → (m n a : ℕ) → SchedulePlace
inner_at s m n a =
    alone_at
    (before flat_stage s m
    + (before flat_pass (get_or s m []) n
    + inner_offset (nesting_pass s m n).kind (nesting_pass s m n)
    (alone_number (inner_stages (nesting_pass s m n).nest) (inner_place_at s m n a))))
    (inner_place_at s m n a)

module _ (s : NestingSchedule) (a : ℕ) (listed : lists (outer_schedule s) a ≡ true) where
  abbrev m : ℕ
  m = stage_of (outer_schedule s) a

  abbrev n : ℕ
  n = pass_in_stage (outer_schedule s) a

  pub in_stage : StandsIn flat_stage s a m []
  in_stage =
      subst (λ k. StandsIn flat_stage s a k []) (first_stage s a)
      (stands_in flat_stage s a [] (lists-flat s a ∙ listed))

  pub in_pass : StandsIn flat_pass (get_or s m []) a n no_pass
  in_pass =
      subst (λ k. StandsIn flat_pass (get_or s m []) a k no_pass)
      (first_pass (get_or s m []) a ∙ ap (λ passes. pass_of passes a) (sym (outer_stage_at s m)))
      (stands_in flat_pass (get_or s m []) a no_pass in_stage.listed)

  in_flat : placing_of (flat_schedule s) a
      ≡ later (before flat_stage s m) (later (before flat_pass (get_or s m []) n) (placing_of (flat_pass (home_pass s a)) a))
  in_flat = in_stage.place_is ∙ ap (later (before flat_stage s m)) in_pass.place_is

  pub flat_own : is_listed (home_pass s a).attributes a ≡ true → lists (inner_stages (home_pass s a).nest) a ≡ false
      → placing_of (flat_schedule s) a ≡ own_at s m n a
  flat_own own lacks =
      in_flat
      ∙ ap (λ x. later (before flat_stage s m) (later (before flat_pass (get_or s m []) n) x))
      (own_in_pass (home_pass s a).kind (home_pass s a) a own lacks)

  pub flat_inner : is_listed (home_pass s a).attributes a ≡ false → lists (inner_stages (home_pass s a).nest) a ≡ true
      → placing_of (flat_schedule s) a ≡ inner_at s m n a
  flat_inner lacks inner =
      in_flat
      ∙ ap (λ x. later (before flat_stage s m) (later (before flat_pass (get_or s m []) n) x))
      (inner_in_pass (home_pass s a).kind (home_pass s a) a lacks inner)

  -- its stage in the flat schedule lies among those that its outer stage makes
  pub among : (b : ℕ) → lists (outer_schedule s) b ≡ true → m < stage_of (outer_schedule s) b
      → stage_of (flat_schedule s) a < before flat_stage s (stage_of (outer_schedule s) b)
  among b lb less =
      let up = before_rises flat_stage s m (stage_of (outer_schedule s) b) [] less in_stage.within in
      let within = stage_within (flat_stage (get_or s m [])) a in_stage.listed in
      let is = ap (λ (x : SchedulePlace). x.stage) in_stage.place_is in
      omega (arith, up, within, is)

  pub behind : before flat_stage s m ≤ stage_of (flat_schedule s) a
  behind = let is = ap (λ (x : SchedulePlace). x.stage) in_stage.place_is in omega (arith, is)
