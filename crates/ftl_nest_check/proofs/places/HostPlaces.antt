-- Where the attributes of nests stand, by their places in the outer schedule.
use Rattle.std.proofs.Common.{◌≡◌, ◌≢◌, ℕ, zero, suc, ◌+◌, ◌-◌, ◌<◌, ◌==◌, nat_lt, Bool, true, false, if◌then◌else◌, refl, sym, ◌∙◌, ap, subst, arith}
use Rattle.std.proofs.Common.{List, [], ◌∷◌, ◌++◌, map, length, get_or, Option, Some, None, Contains}
use Rattle.std.specs.Option.{option_map}
use Rattle.std.proofs.lemmas.Bool.{lt-ltb, le-ltb}
use Rattle.std.proofs.lemmas.List.{get_or-map, get_or_past}
use Rattle.ftl_model.specs.lists.Lists.{is_listed, place_in}
use Rattle.ftl_model.proofs.lists.Listed.{is_there, listed}
use Rattle.ftl_model.proofs.lists.Places.{place_within}
use Rattle.ftl_order.specs.orders.Schedule as order
use Rattle.ftl_order.specs.orders.Schedule.{Pass, empty_pass, entries, pass_at, pass_in_stage, pass_of, placing_of, stage_of}
use Rattle.ftl_order.proofs.automatic.Turns.{place_left, place_right}
use Rattle.ftl_schedule.specs.places.Entries.{all_entries, attributes_of, entry_of, schedule_place_meant}
use Rattle.ftl_schedule.specs.stages.Stages.{stages_of}
use Rattle.ftl_schedule.specs.declared.places.entries.Entry.{Entry}
use Rattle.ftl_schedule.specs.declared.places.schedule_place.SchedulePlace.{SchedulePlace}
use Rattle.ftl_schedule.proofs.places.EntryLists.{attributes_of_entries}
use Rattle.ftl_schedule.proofs.places.PlacingOf.{in_schedule}
use Rattle.ftl_nests.specs.Nests as nests
use Rattle.ftl_nests.specs.Nests.{home_pass, host_in, host_of, inner_stages, nest_placing_of, nesting_pass, no_pass, outer_schedule, whole_pass, whole_stage}
use Rattle.ftl_nests.proofs.FlatLists.{either, is_listed-append}
use Rattle.ftl_nests.proofs.Sides.{outer_length, outer_pass_at}
use Rattle.ftl_nest_check.specs.places.NestPlaced.{entries_in, host_behind, inner_entries, no_entry, place_in_entries, place_in_stages, stage_entries}
use Rattle.ftl_nest_check.specs.stages.Nested.{nest_of, nesting_pass_of, nests_of}
use Rattle.ftl_nest_check.specs.declared.places.inner.StageEntries.{StageEntries}
use Rattle.ftl_nest_check.specs.declared.stages.types.Nest.{Nest}
use Rattle.ftl_nest_check.specs.declared.stages.types.NestingPass.{NestingPass}
use Rattle.ftl_nest_check.specs.declared.stages.types.NestingStage.{NestingStage}
use Rattle.ftl_nest_check.specs.declared.stages.types.NestingSchedule.{NestingSchedule}

-- ---- the own list of a pass, and what is behind it

not_there : (xs : List ℕ) (a : ℕ) → is_listed xs a ≡ false → Contains xs a → ⊥
not_there xs a e there = let l = listed xs a there in let z : ⊥ = grind (arith, e, l) in z

pub listed_by_place : (xs ys : List ℕ) (a : ℕ) → nat_lt (place_in (xs ++ ys) a) (length xs) ≡ is_listed xs a
listed_by_place xs ys a = by (is_listed xs a) refl
  where
    by : (b : Bool) → is_listed xs a ≡ b → nat_lt (place_in (xs ++ ys) a) (length xs) ≡ b
    by true e =
        let there = is_there xs a e in
        let left = place_left xs ys a there in
        let within = place_within xs a there in
        lt-ltb (place_in (xs ++ ys) a) (length xs) (omega (arith, left, within))
    by false e =
        let right = place_right xs ys a (not_there xs a e) in
        le-ltb (place_in (xs ++ ys) a) (length xs) (omega (arith, right))

-- the index of an attribute in its outer pass
index_is : (s : nests.NestingSchedule) (a : ℕ)
    → (placing_of (outer_schedule s) a).index ≡ place_in (whole_pass (home_pass s a)).attributes a
index_is s a =
    ap (λ (p : Pass). place_in p.attributes a)
    (outer_pass_at s (stage_of (outer_schedule s) a) (pass_in_stage (outer_schedule s) a))

-- the host by that
pub host_is : (s : nests.NestingSchedule) (a : ℕ)
    → host_behind (home_pass s a) (placing_of (outer_schedule s) a).index ≡ (nest_placing_of s).host a
host_is s a =
    let own = (home_pass s a).attributes in
    let behind = entries (inner_stages (home_pass s a).nest) in
    ap (λ n. host_behind (home_pass s a) n) (index_is s a)
    ∙ ap (λ b. if b then None else host_of (home_pass s a).nest) (listed_by_place own behind a)

-- ---- the place in a nest

-- the first of the entries with an attribute has the place of the attribute among their attributes
first_entry : (these : List Entry) (a : ℕ) → is_listed (attributes_of these) a ≡ true
    → entry_of these a ≡ Some (place_in_entries these (place_in (attributes_of these) a))
first_entry [] a e = absurd (let z : ⊥ = grind arith in z)
first_entry (x ∷ these) a e =
    elim (a == x.attr) as
    (λ b. (if b then true else is_listed (attributes_of these) a) ≡ true
    → (if b then Some x.schedule_place else entry_of these a)
    ≡ Some (place_in_entries (x ∷ these) (if b then 0 else suc (place_in (attributes_of these) a)))) [
      | true ↦ λ e. refl
      | false ↦ λ e. first_entry these a e
    ]
    e

some_is : {X : Type 0} (x y : X) → Some x ≡ Some y → x ≡ y
some_is {X} x y e = ap (λ (o : Option X). value o) e
  where
    value : Option X → X
    value None = x
    value (Some z) = z

abbrev stage_passes : NestingStage → List nests.NestingPass
stage_passes stage = map nesting_pass_of stage.passes

abbrev pass_entries : NestingPass → List Entry
pass_entries pass = entries_in pass.nest

-- the nest of the pass of a number in a stage, with its entries
record NestIn (passes : List NestingPass) (n : ℕ) : Type 0 where
  nest : Option Nest
  entries_are : get_or (map pass_entries passes) n [] ≡ entries_in nest
  nest_is : (get_or (map nesting_pass_of passes) n no_pass).nest ≡ option_map nest_of nest

nest_in : (passes : List NestingPass) (n : ℕ) → NestIn passes n
nest_in [] n = record { nest = None; entries_are = refl; nest_is = refl }
nest_in (pass ∷ passes) zero = record { nest = pass.nest; entries_are = refl; nest_is = refl }
nest_in (pass ∷ passes) (suc n) =
    let rest = nest_in passes n in
    record { nest = rest.nest; entries_are = rest.entries_are; nest_is = rest.nest_is }

-- among stages
record NestAmong (stages : List NestingStage) (m n : ℕ) : Type 0 where
  nest : Option Nest
  entries_are : get_or (get_or (map stage_entries stages) m (record { passes = [] })).passes n [] ≡ entries_in nest
  nest_is : (get_or (get_or (map stage_passes stages) m []) n no_pass).nest ≡ option_map nest_of nest

nest_among : (stages : List NestingStage) (m n : ℕ) → NestAmong stages m n
nest_among [] m n = record { nest = None; entries_are = refl; nest_is = refl }
nest_among (stage ∷ stages) zero n =
    let here = nest_in stage.passes n in
    record { nest = here.nest; entries_are = here.entries_are; nest_is = here.nest_is }
nest_among (stage ∷ stages) (suc m) n =
    let rest = nest_among stages m n in
    record { nest = rest.nest; entries_are = rest.entries_are; nest_is = rest.nest_is }

-- a pass that nests is there
nests_within : (passes : List nests.NestingPass) (n : ℕ) → (get_or passes n no_pass).nest ≢ None → n < length passes
nests_within [] n some = absurd (some refl)
nests_within (pass ∷ passes) zero some = omega arith
nests_within (pass ∷ passes) (suc n) some = let rest = nests_within passes n some in omega (arith, rest)

-- the first pass that lists an attribute lists it
pass_lists : (passes : List Pass) (a : ℕ) → pass_of passes a < length passes
    → is_listed (get_or passes (pass_of passes a) empty_pass).attributes a ≡ true
pass_lists [] a within = absurd (let z : ⊥ = omega (arith, within) in z)
pass_lists (pass ∷ passes) a within =
    elim (is_listed pass.attributes a) as
    (λ b. (is_listed pass.attributes a ≡ b) → (if b then 0 else suc (pass_of passes a)) < suc (length passes)
    → is_listed (get_or (pass ∷ passes) (if b then 0 else suc (pass_of passes a)) empty_pass).attributes a ≡ true) [
      | true ↦ λ f within. f
      | false ↦ λ f within. pass_lists passes a (omega (arith, within))
    ]
    refl within

-- the pass of an attribute that nests lists it
home_lists : (s : nests.NestingSchedule) (a : ℕ) → (home_pass s a).nest ≢ None
    → is_listed (whole_pass (home_pass s a)).attributes a ≡ true
home_lists s a some =
    let m = stage_of (outer_schedule s) a in
    let within = nests_within (get_or s m []) (pass_in_stage (outer_schedule s) a) some in
    subst (λ (p : Pass). is_listed p.attributes a ≡ true) (outer_pass_at s m (pass_in_stage (outer_schedule s) a))
    (pass_lists (get_or (outer_schedule s) m []) a
    (subst (λ n. pass_in_stage (outer_schedule s) a < n) (sym (outer_length s m)) within))

hosted_nests : (pass : nests.NestingPass) (a : ℕ) → host_in pass a ≢ None
    → (pass.nest ≢ None) × (is_listed pass.attributes a ≡ false)
hosted_nests pass a some = by (is_listed pass.attributes a) refl some
  where
    some_nest : (nest : Option nests.Nest) → host_of nest ≢ None → nest ≢ None
    some_nest None some = absurd (some refl)
    some_nest (Some nest) some = λ e. cc

    by : (b : Bool) → is_listed pass.attributes a ≡ b → (if b then None else host_of pass.nest) ≢ None
        → (pass.nest ≢ None) × (is_listed pass.attributes a ≡ false)
    by true e some = absurd (some refl)
    by false e some = (some_nest pass.nest some, e)

behind_listed : (xs ys : List ℕ) (a : ℕ) → is_listed xs a ≡ false → is_listed (xs ++ ys) a ≡ true
    → is_listed ys a ≡ true
behind_listed xs ys a none all = sym (ap (λ b. either b (is_listed ys a)) none) ∙ sym (is_listed-append xs ys a) ∙ all

-- by its number behind the own list the entry of an attribute has the place in the nest
module _ (s : NestingSchedule) (a : ℕ) where
  abbrev outer : order.SchedulePlace
  outer = placing_of (outer_schedule (nests_of s)) a

  abbrev pass : nests.NestingPass
  pass = home_pass (nests_of s) a

  abbrev own : List ℕ
  own = pass.attributes

  abbrev behind : List ℕ
  behind = entries (inner_stages pass.nest)

  abbrev number : ℕ
  number = outer.index - length own

  abbrev found : ℕ → SchedulePlace
  found k = place_in_stages (inner_entries s) outer.stage outer.pass k

  module _ (some : (nest_placing_of (nests_of s)).host a ≢ None) where
    hosted : (pass.nest ≢ None) × (is_listed own a ≡ false)
    hosted = hosted_nests pass a some

    listed_behind : is_listed behind a ≡ true
    listed_behind = behind_listed own behind a hosted.1 (home_lists (nests_of s) a hosted.0)

    number_is : number ≡ place_in behind a
    number_is =
        let right = place_right own behind a (not_there own a hosted.1) in
        omega (arith, index_is (nests_of s) a, right)

    by_nest : (nest : Option Nest)
        → get_or (get_or (inner_entries s) outer.stage (record { passes = [] })).passes outer.pass [] ≡ entries_in nest
        → pass.nest ≡ option_map nest_of nest
        → schedule_place_meant (found number) ≡ placing_of (inner_stages pass.nest) a
    by_nest None these e = absurd (hosted.0 e)
    by_nest (Some nest) these e =
        let stages = stages_of nest.inner in
        let is : behind ≡ entries stages = ap (λ o. entries (inner_stages o)) e in
        let there : is_listed (entries stages) a ≡ true = ap (λ xs. is_listed xs a) (sym is) ∙ listed_behind in
        let attributes = attributes_of_entries nest.inner in
        let first = first_entry (all_entries nest.inner) a (ap (λ xs. is_listed xs a) attributes ∙ there) in
        let at = place_in (attributes_of (all_entries nest.inner)) a in
        let number_at : number ≡ at = number_is ∙ ap (λ xs. place_in xs a) (is ∙ sym attributes) in
        let is_found : Some (schedule_place_meant (place_in_entries (all_entries nest.inner) at))
        ≡ Some (placing_of stages a) =
        sym (ap (option_map schedule_place_meant) first)
        ∙ in_schedule nest.inner a
        ∙ ap (λ b. if b then Some (placing_of stages a) else None) there in
        ap (λ x. schedule_place_meant (place_in_entries x number)) these
        ∙ ap (λ k. schedule_place_meant (place_in_entries (all_entries nest.inner) k)) number_at
        ∙ some_is _ _ is_found
        ∙ ap (λ o. placing_of (inner_stages o) a) (sym e)

    pub inner_is : schedule_place_meant (found number) ≡ (nest_placing_of (nests_of s)).inner a
    inner_is =
        let at = nest_among s.stages outer.stage outer.pass in
        by_nest at.nest at.entries_are at.nest_is
