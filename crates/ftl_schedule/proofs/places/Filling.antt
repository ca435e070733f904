-- Rows of places that are filled entry by entry.
use Rattle.std.proofs.Common.{◌≡◌, ℕ, ◌<◌, ◌≤◌, ◌==◌, Bool, true, false, if◌then◌else◌, List, [], ◌∷◌, length, get_or, replicate, Option, Some, None, refl, sym, ◌∙◌, ap, arith, subst, eqb-true, eq-eqb, ◌≢◌, ⊎_elim}
use Rattle.std.specs.Option.{is_some}
use Rattle.std.proofs.lemmas.List.{get_or-replicate, get_or_past, get_or-set_same, get_or-set_other, length-replicate, length-set}
use Rattle.std.proofs.lemmas.Bool.{cases_lt}
use Rattle.std.specs.List.{slice_set}
use Rattle.ftl_model.specs.lists.Lists.{is_listed}
use Rattle.ftl_order.specs.faults.FirstFault.{first_twice}
use Rattle.ftl_order.specs.declared.faults.fault.VerifyFault.{VerifyFault}
use Rattle.ftl_order.specs.declared.faults.fault.VerifyFault.TheVariants.{Twice}
use Rattle.ftl_schedule.specs.places.Entries.{attributes_of, entry_of}
use Rattle.ftl_schedule.specs.places.Placed.{AreBelow, HasPlaces}
use Rattle.ftl_schedule.specs.declared.places.entries.Entry.{Entry}
use Rattle.ftl_schedule.specs.declared.places.schedule_place.SchedulePlace.{SchedulePlace}
use Rattle.ftl_schedule.proofs.places.Lookup.{or_place}

-- the rows after some entries of all, where these are left
pub record IsFilled (all left : List Entry) (count : ℕ) (rows : List (Option SchedulePlace)) : Type 0 where
  pub before : List ℕ
  pub listed : (a : ℕ) → is_listed before a ≡ is_some (get_or rows a None)
  pub fault : first_twice before (attributes_of left) ≡ first_twice [] (attributes_of all)
  pub found : (a : ℕ) → or_place (get_or rows a None) (entry_of left a) ≡ entry_of all a
  pub same_count : length rows ≡ count
  pub below : AreBelow count (attributes_of left)

-- no place
abbrev pub nothing : Option SchedulePlace
nothing = None

pub nothing_there : (n a : ℕ) → get_or (replicate n nothing) a nothing ≡ nothing
nothing_there n a =
    ⊎_elim (λ low. get_or-replicate n a nothing nothing low)
    (λ high. get_or_past (replicate n nothing) a nothing (subst (λ m. m ≤ a) (sym (length-replicate n nothing)) high))
    (cases_lt a n)

-- before the first entry
pub filled_none : (all : List Entry) (rows : List (Option SchedulePlace)) → rows ≡ replicate (length rows) None
    → AreBelow (length rows) (attributes_of all) → IsFilled all all (length rows) rows
filled_none all rows empty below =
    let none : (a : ℕ) → get_or rows a None ≡ None =
    λ a. ap (λ xs. get_or xs a None) empty ∙ nothing_there (length rows) a in
    record {
      before = [];
      listed = λ a. ap is_some (sym (none a));
      fault = refl;
      found = λ a. ap (λ o. or_place o (entry_of all a)) (none a);
      same_count = refl;
      below = below;
    }

-- two numbers are the same, or the test finds them different
pub data Same (a x : ℕ) : Type 0 where
  same : a ≡ x → Same a x
  differ : a ≢ x → (a == x) ≡ false → Same a x

pub compare : (a x : ℕ) → Same a x
compare a x = by (a == x) refl
  where
    by : (b : Bool) → (a == x) ≡ b → Same a x
    by true e = same (eqb-true a x e)
    by false e = differ (λ q. absurd (let f = eq-eqb a x q in cc)) e

module _ (all : List Entry) (e : Entry) (left : List Entry) (n : ℕ) (rows : List (Option SchedulePlace))
    (f : IsFilled all (e ∷ left) n rows) where
  -- the entry's attribute has a place already
  pub found_twice : is_some (get_or rows e.attr None) ≡ true → first_twice [] (attributes_of all) ≡ Some (Twice e.attr)
  found_twice is =
      sym f.fault
      ∙ ap (λ b. if b then Some (Twice e.attr) else first_twice (e.attr ∷ f.before) (attributes_of left)) (f.listed e.attr ∙ is)

  -- it is in range
  pub entry_below : e.attr < length rows
  entry_below = subst (λ m. e.attr < m) (sym f.same_count) f.below.0

  -- it has none yet, and is given one
  pub filled_more : is_some (get_or rows e.attr None) ≡ false → IsFilled all left n (slice_set rows e.attr (Some e.schedule_place))
  filled_more is =
      let more = slice_set rows e.attr (Some e.schedule_place) in
      record {
        before = e.attr ∷ f.before;
        listed = λ a. listed_by a (compare a e.attr);
        fault = sym (ap (λ b. if b then Some (Twice e.attr) else first_twice (e.attr ∷ f.before) (attributes_of left)) (f.listed e.attr ∙ is)) ∙ f.fault;
        found = λ a. found_by a (compare a e.attr);
        same_count = length-set rows e.attr (Some e.schedule_place) ∙ f.same_count;
        below = f.below.1;
      }
    where
      here : (a : ℕ) → a ≡ e.attr → get_or (slice_set rows e.attr (Some e.schedule_place)) a None ≡ Some e.schedule_place
      here a q = ap (λ b. get_or (slice_set rows e.attr (Some e.schedule_place)) b None) q ∙ get_or-set_same rows e.attr (Some e.schedule_place) None entry_below

      empty : (o : Option SchedulePlace) → is_some o ≡ false → o ≡ None
      empty None e = refl
      empty (Some x) e = cc

      listed_by : (a : ℕ) → Same a e.attr
          → is_listed (e.attr ∷ f.before) a ≡ is_some (get_or (slice_set rows e.attr (Some e.schedule_place)) a None)
      listed_by a (same q) =
          ap (λ b. if b then true else is_listed f.before a) (eq-eqb a e.attr q) ∙ sym (ap is_some (here a q))
      listed_by a (differ other q) =
          ap (λ b. if b then true else is_listed f.before a) q ∙ f.listed a
          ∙ sym (ap is_some (get_or-set_other rows e.attr a (Some e.schedule_place) None other))

      found_by : (a : ℕ) → Same a e.attr
          → or_place (get_or (slice_set rows e.attr (Some e.schedule_place)) a None) (entry_of left a) ≡ entry_of all a
      found_by a (same q) =
          ap (λ o. or_place o (entry_of left a)) (here a q)
          ∙ sym (ap (λ b. if b then Some e.schedule_place else entry_of left a) (eq-eqb a e.attr q))
          ∙ sym (ap (λ o. or_place o (entry_of (e ∷ left) a)) (ap (λ b. get_or rows b None) q ∙ empty (get_or rows e.attr None) is))
          ∙ f.found a
      found_by a (differ other q) =
          ap (λ o. or_place o (entry_of left a)) (get_or-set_other rows e.attr a (Some e.schedule_place) None other)
          ∙ sym (ap (λ b. or_place (get_or rows a None) (if b then Some e.schedule_place else entry_of left a)) q)
          ∙ f.found a

-- after the last entry
pub filled_all : (all : List Entry) (n : ℕ) (rows : List (Option SchedulePlace)) → IsFilled all [] n rows → HasPlaces all rows
filled_all all n rows f a = sym (without (get_or rows a None)) ∙ f.found a
  where
    without : (o : Option SchedulePlace) → or_place o None ≡ o
    without None = refl
    without (Some x) = refl
