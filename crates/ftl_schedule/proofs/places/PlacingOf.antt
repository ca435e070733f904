-- The place of an attribute is that of its first entry.
use Rattle.std.proofs.Common.{◌≡◌, ℕ, suc, ◌+◌, ◌<◌, ◌≤◌, Bool, true, false, if◌then◌else◌, List, [], ◌∷◌, ◌++◌, map, length, get_or, Option, Some, None, refl, sym, ◌∙◌, ap, arith, subst}
use Rattle.std.specs.Option.{is_some, option_map}
use Rattle.std.proofs.lemmas.List.{get_or_past}
use Rattle.ftl_model.specs.lists.Lists.{is_listed, place_in}
use Rattle.ftl_order.specs.orders.Schedule as order
use Rattle.ftl_order.specs.orders.Schedule.{empty_pass, entries, has_entry, pass_at, pass_in_stage, placing_of}
use Rattle.ftl_order.specs.orders.Schedule.{stage_of, topdown}
use Rattle.ftl_schedule.specs.stages.Stages.{stages_of}
use Rattle.ftl_schedule.specs.declared.stages.types.Schedule.{Schedule}
use Rattle.ftl_schedule.specs.places.Entries.{all_entries, entry_of, schedule_place_meant}
use Rattle.ftl_schedule.specs.declared.places.schedule_place.SchedulePlace.{SchedulePlace}
use Rattle.ftl_schedule.proofs.places.EntryLists.{listed_in, passes_of}
use Rattle.ftl_schedule.proofs.places.Lookup.{by_passes, has_entry_where, in_stages, listed-append}

-- a place in a stage past the last
abbrev pub no_schedule_place : (stages : ℕ) → order.SchedulePlace
no_schedule_place n = record { stage = n; pass = 0; kind = topdown; index = 0 }

-- without an entry, no stage lists the attribute
pub past_stages : (os : order.Schedule) (a : ℕ) → is_listed (entries os) a ≡ false → stage_of os a ≡ length os
past_stages [] a none = refl
past_stages (o ∷ os) a none = by (past_stages os a) (has_entry o a) refl
  where
    by : (is_listed (entries os) a ≡ false → stage_of os a ≡ length os) → (b : Bool) → has_entry o a ≡ b → (if b then 0 else suc (stage_of os a)) ≡ suc (length os)
    by again true e =
        absurd (let here : is_listed (entries (o ∷ os)) a ≡ true =
        listed-append (listed_in o) (entries os) a
        ∙ ap (λ c. if c then true else is_listed (entries os) a) (sym (has_entry_where o a) ∙ e) in cc)
    by again false e =
        ap suc (again
        (sym (listed-append (listed_in o) (entries os) a
        ∙ ap (λ c. if c then true else is_listed (entries os) a) (sym (has_entry_where o a) ∙ e)) ∙ none))

-- the place by the stage
abbrev pub by_stage : order.Schedule → (stage : ℕ) → ℕ → order.SchedulePlace
by_stage os m a =
    record {
      stage = m;
      pass = order.pass_of (get_or os m []) a;
      kind = (get_or (get_or os m []) (order.pass_of (get_or os m []) a) empty_pass).kind;
      index = place_in (get_or (get_or os m []) (order.pass_of (get_or os m []) a) empty_pass).attributes a;
    }

pub without_entry : (os : order.Schedule) (a : ℕ) → is_listed (entries os) a ≡ false → placing_of os a ≡ no_schedule_place (length os)
without_entry os a none =
    ap (λ m. by_stage os m a) (past_stages os a none)
    ∙ ap (λ ps. by_passes (length os) ps a) (get_or_past os (length os) [] (omega arith))

-- what the look-up of a place answers
abbrev pub found_or_past : (stages : ℕ) → Option SchedulePlace → order.SchedulePlace
found_or_past n None = no_schedule_place n
found_or_past n (Some x) = schedule_place_meant x

-- the place by its stage, where the attribute has an entry
pub in_schedule : (s : Schedule) (a : ℕ)
    → option_map schedule_place_meant (entry_of (all_entries s) a)
    ≡ (if is_listed (entries (stages_of s)) a then Some (placing_of (stages_of s) a) else None)
in_schedule s a =
    in_stages 0 s.stages a
    ∙ ap (λ m. if is_listed (entries (stages_of s)) a then
    Some (record {
      stage = m;
      pass = pass_in_stage (stages_of s) a;
      kind = (pass_at (stages_of s) (stage_of (stages_of s) a) (pass_in_stage (stages_of s) a)).kind;
      index = place_in (pass_at (stages_of s) (stage_of (stages_of s) a) (pass_in_stage (stages_of s) a)).attributes a;
    }) else None) (omega arith)

-- by whether the attribute has an entry
pub place_found : (s : Schedule) (a : ℕ) → found_or_past (length (stages_of s)) (entry_of (all_entries s) a) ≡ placing_of (stages_of s) a
place_found s a = by (entry_of (all_entries s) a) (is_listed (entries (stages_of s)) a) refl (in_schedule s a)
  where
    by : (o : Option SchedulePlace) (b : Bool) → is_listed (entries (stages_of s)) a ≡ b
        → option_map schedule_place_meant o ≡ (if is_listed (entries (stages_of s)) a then Some (placing_of (stages_of s) a) else None)
        → found_or_past (length (stages_of s)) o ≡ placing_of (stages_of s) a
    by None false e f = sym (without_entry (stages_of s) a e)
    by None true e f =
        absurd (let g = f ∙ ap (λ c. if c then Some (placing_of (stages_of s) a) else None) e in cc)
    by (Some x) true e f =
        let g = f ∙ ap (λ c. if c then Some (placing_of (stages_of s) a) else None) e in cc
    by (Some x) false e f =
        absurd (let g = f ∙ ap (λ c. if c then Some (placing_of (stages_of s) a) else None) e in cc)

pub entry_listed : (s : Schedule) (a : ℕ) → is_some (entry_of (all_entries s) a) ≡ is_listed (entries (stages_of s)) a
entry_listed s a = by (entry_of (all_entries s) a) (is_listed (entries (stages_of s)) a) (in_schedule s a)
  where
    by : (o : Option SchedulePlace) (b : Bool)
        → option_map schedule_place_meant o ≡ (if b then Some (placing_of (stages_of s) a) else None) → is_some o ≡ b
    by None false f = refl
    by (Some x) true f = refl
    by None true f = cc
    by (Some x) false f = cc
