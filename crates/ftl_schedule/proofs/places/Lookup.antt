-- The place of an attribute among entries, pass by pass and stage by stage.
use Rattle.std.proofs.Common.{◌≡◌, ℕ, suc, ◌+◌, ◌==◌, Bool, true, false, if◌then◌else◌, List, [], ◌∷◌, ◌++◌, map, get_or, Option, Some, None, refl, sym, ◌∙◌, ap, arith}
use Rattle.std.specs.Option.{option_map}
use Rattle.ftl_model.specs.lists.Lists.{is_listed, place_in}
use Rattle.ftl_order.specs.orders.Schedule as order
use Rattle.ftl_order.specs.orders.Schedule.{empty_pass, entries, has_entry, pass_at, pass_in_stage, stage_of}
use Rattle.ftl_schedule.specs.declared.syntax.kind.PassKind.{PassKind}
use Rattle.ftl_schedule.specs.stages.Stages.{pass_of}
use Rattle.ftl_schedule.specs.declared.stages.types.Pass.{Pass}
use Rattle.ftl_schedule.specs.declared.stages.types.Stage.{Stage}
use Rattle.ftl_schedule.specs.places.Entries.{entries_from, entries_of_pass, entries_of_stage, entry_of, passes_from}
use Rattle.ftl_schedule.specs.places.Entries.{schedule_place_meant}
use Rattle.ftl_schedule.specs.places.Entries.{stages_from}
use Rattle.ftl_schedule.specs.declared.places.entries.Entry.{Entry}
use Rattle.ftl_schedule.specs.declared.places.schedule_place.SchedulePlace.{SchedulePlace}
use Rattle.ftl_schedule.proofs.places.EntryLists.{listed_in, passes_of}

-- the first of two places, where there is one
abbrev pub or_place : Option SchedulePlace → Option SchedulePlace → Option SchedulePlace
or_place (Some x) later = Some x
or_place None later = later

pub entry_of-append : (xs ys : List Entry) (a : ℕ) → entry_of (xs ++ ys) a ≡ or_place (entry_of xs a) (entry_of ys a)
entry_of-append [] ys a = refl
entry_of-append (e ∷ xs) ys a =
    elim (a == e.attr) as
    (λ b. (if b then Some e.schedule_place else entry_of (xs ++ ys) a)
    ≡ or_place (if b then Some e.schedule_place else entry_of xs a) (entry_of ys a)) [
      | true ↦ refl
      | false ↦ entry_of-append xs ys a
    ]

-- a place by its numbers
abbrev pub schedule_place : (stage pass : ℕ) → PassKind → (index : ℕ) → SchedulePlace
schedule_place s p k n = record { stage = s; pass = p; kind = k; index = n }

pub in_pass : (s p : ℕ) (k : PassKind) (n : ℕ) (attrs : List ℕ) (a : ℕ)
    → entry_of (entries_from s p k n attrs) a
    ≡ (if is_listed attrs a then Some (schedule_place s p k (n + place_in attrs a)) else None)
in_pass s p k n [] a = refl
in_pass s p k n (x ∷ xs) a =
    elim (a == x) as
    (λ b. (if b then Some (schedule_place s p k n) else entry_of (entries_from s p k (n + 1) xs) a)
    ≡ (if (if b then true else is_listed xs a)
    then Some (schedule_place s p k (n + (if b then 0 else suc (place_in xs a)))) else None)) [
      | true ↦ ap (λ i. Some (schedule_place s p k i)) (omega arith)
      | false ↦ in_pass s p k (n + 1) xs a ∙ ap (λ i. if is_listed xs a then Some (schedule_place s p k i) else None) (omega arith)
    ]

pub in_whole_pass : (s p : ℕ) (k : PassKind) (attrs : List ℕ) (a : ℕ)
    → entry_of (entries_of_pass s p k attrs) a
    ≡ (if is_listed attrs a then Some (schedule_place s p k (place_in attrs a)) else None)
in_whole_pass s p k attrs a =
    in_pass s p k 0 attrs a ∙ ap (λ i. if is_listed attrs a then Some (schedule_place s p k i) else None) (omega arith)

-- where an attribute stands in passes of a stage, of which the first has this number
abbrev pub schedule_place_in : (stage n : ℕ) → List order.Pass → ℕ → order.SchedulePlace
schedule_place_in s n os a =
    record {
      stage = s;
      pass = n + order.pass_of os a;
      kind = (get_or os (order.pass_of os a) empty_pass).kind;
      index = place_in (get_or os (order.pass_of os a) empty_pass).attributes a;
    }

pub in_passes : (s n : ℕ) (ps : List Pass) (a : ℕ)
    → option_map schedule_place_meant (entry_of (passes_from s n ps) a)
    ≡ (if has_entry (map pass_of ps) a then Some (schedule_place_in s n (map pass_of ps) a) else None)
in_passes s n [] a = refl
in_passes s n (p ∷ ps) a =
    ap (option_map schedule_place_meant) (entry_of-append (entries_of_pass s n p.kind p.attrs) (passes_from s (n + 1) ps) a)
    ∙ ap (λ o. option_map schedule_place_meant (or_place o (entry_of (passes_from s (n + 1) ps) a))) (in_whole_pass s n p.kind p.attrs a)
    ∙ elim (is_listed p.attrs a) as
    (λ b. option_map schedule_place_meant
    (or_place (if b then Some (schedule_place s n p.kind (place_in p.attrs a)) else None) (entry_of (passes_from s (n + 1) ps) a))
    ≡ (if (if b then true else has_entry (map pass_of ps) a) then
    Some (record {
      stage = s;
      pass = n + (if b then 0 else suc (order.pass_of (map pass_of ps) a));
      kind = (get_or (pass_of p ∷ map pass_of ps) (if b then 0 else suc (order.pass_of (map pass_of ps) a)) empty_pass).kind;
      index =
          place_in (get_or (pass_of p ∷ map pass_of ps) (if b then 0 else suc (order.pass_of (map pass_of ps) a)) empty_pass).attributes a;
    }) else None)) [
      | true ↦ ap (λ i. Some (record { stage = s; pass = i; kind = (pass_of p).kind; index = place_in p.attrs a })) (omega arith)
      | false ↦
          in_passes s (n + 1) ps a
          ∙ ap (λ i. if has_entry (map pass_of ps) a then
          Some (record {
            stage = s;
            pass = i;
            kind = (get_or (map pass_of ps) (order.pass_of (map pass_of ps) a) empty_pass).kind;
            index = place_in (get_or (map pass_of ps) (order.pass_of (map pass_of ps) a) empty_pass).attributes a;
          }) else None) (omega arith)
    ]

-- where an attribute stands in the passes of a stage
abbrev pub by_passes : (stage : ℕ) → List order.Pass → ℕ → order.SchedulePlace
by_passes s os a =
    record {
      stage = s;
      pass = order.pass_of os a;
      kind = (get_or os (order.pass_of os a) empty_pass).kind;
      index = place_in (get_or os (order.pass_of os a) empty_pass).attributes a;
    }

pub in_stage : (s : ℕ) (ps : List Pass) (a : ℕ)
    → option_map schedule_place_meant (entry_of (entries_of_stage s ps) a)
    ≡ (if has_entry (map pass_of ps) a then Some (by_passes s (map pass_of ps) a) else None)
in_stage s ps a =
    in_passes s 0 ps a
    ∙ ap (λ i. if has_entry (map pass_of ps) a then
    Some (record {
      stage = s;
      pass = i;
      kind = (get_or (map pass_of ps) (order.pass_of (map pass_of ps) a) empty_pass).kind;
      index = place_in (get_or (map pass_of ps) (order.pass_of (map pass_of ps) a) empty_pass).attributes a;
    }) else None) (omega arith)

pub listed-append : (xs ys : List ℕ) (a : ℕ) → is_listed (xs ++ ys) a ≡ (if is_listed xs a then true else is_listed ys a)
listed-append [] ys a = refl
listed-append (x ∷ xs) ys a =
    elim (a == x) as
    (λ b. (if b then true else is_listed (xs ++ ys) a)
    ≡ (if (if b then true else is_listed xs a) then true else is_listed ys a)) [
      | true ↦ refl
      | false ↦ listed-append xs ys a
    ]

-- one of the passes lists an attribute exactly where their attributes have it
pub has_entry_where : (os : List order.Pass) (a : ℕ) → has_entry os a ≡ is_listed (listed_in os) a
has_entry_where [] a = refl
has_entry_where (o ∷ os) a =
    ap (λ b. if is_listed o.attributes a then true else b) (has_entry_where os a)
    ∙ sym (listed-append o.attributes (listed_in os) a)

-- where an attribute stands in stages, of which the first has this number
abbrev pub schedule_place_from : (n : ℕ) → order.Schedule → ℕ → order.SchedulePlace
schedule_place_from n os a =
    record {
      stage = n + stage_of os a;
      pass = pass_in_stage os a;
      kind = (pass_at os (stage_of os a) (pass_in_stage os a)).kind;
      index = place_in (pass_at os (stage_of os a) (pass_in_stage os a)).attributes a;
    }

-- the same, by the stage
abbrev pub schedule_place_by : (n : ℕ) → order.Schedule → (stage : ℕ) → ℕ → order.SchedulePlace
schedule_place_by n os m a =
    record {
      stage = n + m;
      pass = order.pass_of (get_or os m []) a;
      kind = (get_or (get_or os m []) (order.pass_of (get_or os m []) a) empty_pass).kind;
      index = place_in (get_or (get_or os m []) (order.pass_of (get_or os m []) a) empty_pass).attributes a;
    }

pub in_stages : (n : ℕ) (ss : List Stage) (a : ℕ)
    → option_map schedule_place_meant (entry_of (stages_from n ss) a)
    ≡ (if is_listed (entries (map passes_of ss)) a then Some (schedule_place_from n (map passes_of ss) a) else None)
in_stages n [] a = refl
in_stages n (s ∷ ss) a =
    ap (option_map schedule_place_meant) (entry_of-append (entries_of_stage n s.passes) (stages_from (n + 1) ss) a)
    ∙ step (in_stages (n + 1) ss a) (entry_of (entries_of_stage n s.passes) a) (in_stage n s.passes a)
    ∙ ap (λ b. if b then Some (schedule_place_from n (passes_of s ∷ map passes_of ss) a) else None)
    (ap (λ b. if b then true else is_listed (entries (map passes_of ss)) a) (has_entry_where (passes_of s) a)
    ∙ sym (listed-append (listed_in (passes_of s)) (entries (map passes_of ss)) a))
  where
    step : option_map schedule_place_meant (entry_of (stages_from (n + 1) ss) a)
        ≡ (if is_listed (entries (map passes_of ss)) a then Some (schedule_place_from (n + 1) (map passes_of ss) a) else None)
        → (o : Option SchedulePlace)
        → option_map schedule_place_meant o ≡ (if has_entry (passes_of s) a then Some (by_passes n (passes_of s) a) else None)
        → option_map schedule_place_meant (or_place o (entry_of (stages_from (n + 1) ss) a))
        ≡ (if (if has_entry (passes_of s) a then true else is_listed (entries (map passes_of ss)) a)
        then Some (schedule_place_by n (passes_of s ∷ map passes_of ss)
        (if has_entry (passes_of s) a then 0 else suc (stage_of (map passes_of ss) a)) a) else None)
    step again o is =
        elim (has_entry (passes_of s) a) as
        (λ b. option_map schedule_place_meant o ≡ (if b then Some (by_passes n (passes_of s) a) else None)
        → option_map schedule_place_meant (or_place o (entry_of (stages_from (n + 1) ss) a))
        ≡ (if (if b then true else is_listed (entries (map passes_of ss)) a)
        then Some (schedule_place_by n (passes_of s ∷ map passes_of ss) (if b then 0 else suc (stage_of (map passes_of ss) a)) a)
        else None)) [
          | true ↦ λ e. here o e
          | false ↦ λ e. later o e
        ]
        is
      where
        here : (p : Option SchedulePlace) → option_map schedule_place_meant p ≡ Some (by_passes n (passes_of s) a)
            → option_map schedule_place_meant (or_place p (entry_of (stages_from (n + 1) ss) a))
            ≡ Some (schedule_place_by n (passes_of s ∷ map passes_of ss) 0 a)
        here None e = cc
        here (Some x) e =
            e
            ∙ ap (λ i. Some (record {
              stage = i;
              pass = order.pass_of (passes_of s) a;
              kind = (get_or (passes_of s) (order.pass_of (passes_of s) a) empty_pass).kind;
              index = place_in (get_or (passes_of s) (order.pass_of (passes_of s) a) empty_pass).attributes a;
            })) (omega arith)

        later : (p : Option SchedulePlace) → option_map schedule_place_meant p ≡ None
            → option_map schedule_place_meant (or_place p (entry_of (stages_from (n + 1) ss) a))
            ≡ (if is_listed (entries (map passes_of ss)) a
            then Some (schedule_place_by n (passes_of s ∷ map passes_of ss) (suc (stage_of (map passes_of ss) a)) a) else None)
        later (Some x) e = cc
        later None e =
            again
            ∙ ap (λ i. if is_listed (entries (map passes_of ss)) a then
            Some (record {
              stage = i;
              pass = pass_in_stage (map passes_of ss) a;
              kind = (pass_at (map passes_of ss) (stage_of (map passes_of ss) a) (pass_in_stage (map passes_of ss) a)).kind;
              index =
                  place_in (pass_at (map passes_of ss) (stage_of (map passes_of ss) a) (pass_in_stage (map passes_of ss) a)).attributes
                  a;
            }) else None) (omega arith)
