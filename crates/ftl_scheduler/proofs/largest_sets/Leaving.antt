-- What can't stay in a list: what has no place or needs what is not done, and what uses that.
use Rattle.std.proofs.Common.{◌≡◌, ◌⊎◌, ℕ, ◌<◌, ◌&&◌, not, Bool, true, false, refl, sym, ◌∙◌, ap, subst, inl, inr}
use Rattle.std.proofs.Common.{⊎_elim, List, filter, Contains, slice_index_or}
use Rattle.std.specs.Cmp.{nat_cmp_total}
use Rattle.std.specs.FinSet as set
use Rattle.std.proofs.lemmas.Bool.{and_cases, and_from, and_parts, and_right, cases_Bool, false_from_ne_true, not-false, not-true}
use Rattle.std.proofs.lemmas.Bool.{not_from_false, or_cases, or_left, or_right, true≢false}
use Rattle.lane_rows.specs.Matrix.{entry}
use Rattle.ftl_model.specs.lists.Lists.{place_in}
use Rattle.ftl_model.proofs.lists.Elements.{distinct-filter, filter_has, in_filter}
use Rattle.ftl_order.specs.automatic.Fitting.{HasAll, IsAtMost}
use Rattle.ftl_order.proofs.automatic.Turns.{places_rise, rising-filter, rising_place}
use Rattle.ftl_scheduler.specs.largest_sets.Rows.{AreWhole, Has, Row}
use Rattle.ftl_scheduler.specs.largest_sets.LargestList.{IsLargestList, MeetsConstraints}
use Rattle.ftl_scheduler.specs.largest_sets.Staying.{CanStay, IsClosure, has_late, is_first}
use Rattle.ftl_scheduler.specs.largest_sets.Turns.{Turns, after}
use Rattle.ftl_scheduler.specs.declared.largest_sets.constraints.Constraints.{Constraints}
use Rattle.ftl_scheduler.proofs.largest_sets.Turns.{after_cases, after_has, along_places, kept_least, none_missed}
use Rattle.ftl_scheduler.proofs.largest_sets.Turns.{after_more, none_ready, turns_distinct, turns_in_turn, turns_new, turns_within}
use Rattle.ftl_scheduler.proofs.largest_sets.Turns.{put_cases, put_more}

-- while it is looked for, what uses what was taken leaves
pub record IsLeaving (users : List Row) (all done first leaving taken : Row) : Type 0 where
  pub leaves : (b : ℕ) → Has first b → Has leaving b
  pub within : (b : ℕ) → Has leaving b → Has all b
  pub has_done : (b : ℕ) → Has done b → Has taken b
  pub of_either : (b : ℕ) → Has taken b → Has done b ⊎ Has leaving b
  pub closed : (x b : ℕ) → Has taken x → set.contains done x ≡ false → entry users x b ≡ true → Has leaving b
  pub spares :
      (kept : List ℕ) → CanStay users done first kept → (b : ℕ) → Contains kept b → set.contains leaving b ≡ false

none_of : (row : Row) (b : ℕ) → (Has row b → ⊥) → set.contains row b ≡ false
none_of row b out = false_from_ne_true (set.contains row b) out

pub union_cases : (s t : Row) (b : ℕ) → Has (set.union s t) b → Has s b ⊎ Has t b
union_cases s t b h =
    or_cases (set.contains s b) (set.contains t b) (sym (set.contains-union nat_cmp_total s t b) ∙ h)

pub union_left : (s t : Row) (b : ℕ) → Has s b → Has (set.union s t) b
union_left s t b h = set.contains-union nat_cmp_total s t b ∙ or_left (set.contains s b) (set.contains t b) h

pub union_right : (s t : Row) (b : ℕ) → Has t b → Has (set.union s t) b
union_right s t b h = set.contains-union nat_cmp_total s t b ∙ or_right (set.contains s b) (set.contains t b) h

pub minus_parts : (s t : Row) (b : ℕ) → Has (set.difference s t) b → Has s b × (set.contains t b ≡ false)
minus_parts s t b h =
    let both = and_parts (set.contains s b) (not (set.contains t b)) (sym (set.contains-difference nat_cmp_total s t b) ∙ h) in
    (both.0, not-true (set.contains t b) both.1)

pub minus_none : (s t : Row) → set.difference s t ≡ set.empty → (b : ℕ) → Has s b → Has t b
minus_none s t e b h =
    not-false (set.contains t b)
    (⊎_elim (λ out. absurd (true≢false (sym h ∙ out))) (λ in_t. in_t)
    (and_cases (set.contains s b) (not (set.contains t b))
    (sym (set.contains-difference nat_cmp_total s t b) ∙ ap (λ r. set.contains r b) e ∙ set.contains-empty _ b)))

module _ (users : List Row) (all done first : Row) where
  pub leaving_start : (taken : Row) → ((b : ℕ) → Has first b → Has all b)
      → ((b : ℕ) → set.contains taken b ≡ set.contains done b) → IsLeaving users all done first first taken
  leaving_start taken within same =
      record {
        leaves = λ b h. h;
        within = within;
        has_done = λ b h. same b ∙ h;
        of_either = λ b h. inl (sym (same b) ∙ h);
        closed = λ x b h out e. absurd (true≢false (sym h ∙ same x ∙ out));
        spares = λ kept stay b h. stay.stays b h;
      }

  pub leaving_more : (leaving taken new : Row) (a : ℕ) → IsLeaving users all done first leaving taken
      → ((x y : ℕ) → entry users x y ≡ true → Has all y) → Has leaving a → set.contains taken a ≡ false
      → new ≡ set.union leaving (slice_index_or users a set.empty)
      → IsLeaving users all done first new (set.insert taken a)
  leaving_more leaving taken new a l readers there out is =
      subst (λ n. IsLeaving users all done first n (set.insert taken a)) (sym is)
      (record {
        leaves = λ b h. union_left leaving (slice_index_or users a set.empty) b (l.leaves b h);
        within = λ b h. ⊎_elim (λ old. l.within b old) (λ uses. readers a b uses)
            (union_cases leaving (slice_index_or users a set.empty) b h);
        has_done = λ b h. put_more taken a b (l.has_done b h);
        of_either = λ b h.
            ⊎_elim
            (λ same.
            inr (union_left leaving (slice_index_or users a set.empty) b (subst (Has leaving) (sym same) there)))
            (λ old. ⊎_elim (λ d. inl d) (λ lv. inr (union_left leaving (slice_index_or users a set.empty) b lv))
            (l.of_either b old))
            (put_cases taken a b h);
        closed = λ x b h no e.
            ⊎_elim
            (λ same.
            union_right leaving (slice_index_or users a set.empty) b (subst (λ y. entry users y b ≡ true) same e))
            (λ old. union_left leaving (slice_index_or users a set.empty) b (l.closed x b old no e)) (put_cases taken a x h);
        spares = λ kept stay b h.
            none_of (set.union leaving (slice_index_or users a set.empty)) b
            (λ in_new.
            ⊎_elim (λ old. true≢false (sym old ∙ l.spares kept stay b h))
            (λ uses.
            ⊎_elim (λ d. true≢false (sym (l.has_done a d) ∙ out))
            (λ k. true≢false (sym there ∙ l.spares kept stay a k)) (stay.used a b h uses))
            (union_cases leaving (slice_index_or users a set.empty) b in_new));
      })

  pub leaving_end : (leaving taken : Row) → IsLeaving users all done first leaving taken
      → set.difference leaving taken ≡ set.empty → IsClosure users done first taken
  leaving_end leaving taken l none =
      record {
        leaves = λ b h. minus_none leaving taken none b (l.leaves b h);
        has_done = l.has_done;
        closed = λ x b h out e. minus_none leaving taken none b (l.closed x b h out e);
        spares = λ kept stay b h.
            none_of taken b
            (λ t.
            ⊎_elim (λ d. true≢false (sym d ∙ stay.not_done b h)) (λ lv. true≢false (sym lv ∙ l.spares kept stay b h))
            (l.of_either b t));
      }

module _ (n : Constraints) (all done first taken : Row) (xs : List ℕ) (whole : AreWhole n all)
    (turns : Turns n.earlier all done xs)
    (is_first_is : (b : ℕ) → set.contains first b ≡ is_first n.late all done (after done xs) b)
    (closure : IsClosure n.users done first taken) where
  abbrev keep : ℕ → Bool
  keep a = not (set.contains taken a)

  abbrev list : List ℕ
  list = filter keep xs

  there : (a : ℕ) → Contains list a → Contains xs a
  there a h = (in_filter keep xs a h).0

  stays : (a : ℕ) → Contains list a → set.contains taken a ≡ false
  stays a h = not-true (set.contains taken a) (in_filter keep xs a h).1

  list_has : (a : ℕ) → Contains xs a → set.contains taken a ≡ false → Contains list a
  list_has a h out = filter_has keep xs a h (not_from_false (set.contains taken a) out)

  -- what is not taken has a place, and what it needs done is
  not_taken : (a : ℕ) → Has all a → set.contains taken a ≡ false
      → Has (after done xs) a × (has_late n.late done a ≡ true)
  not_taken a of_all out =
      let not_first : is_first n.late all done (after done xs) a ≡ false =
      sym (is_first_is a) ∙ none_of first a (λ f. true≢false (sym (closure.leaves a f) ∙ out)) in
      and_parts (set.contains (after done xs) a) (has_late n.late done a)
      (not-false (set.contains (after done xs) a && has_late n.late done a)
      (⊎_elim (λ no. absurd (true≢false (sym of_all ∙ no))) (λ e. e)
      (and_cases (set.contains all a) (not (set.contains (after done xs) a && has_late n.late done a)) not_first)))

  used : (x y : ℕ) → Contains list y → entry n.users x y ≡ true → Has done x ⊎ Contains list x
  used x y h e =
      ⊎_elim (λ d. inl d)
      (λ not_done.
      let out : set.contains taken x ≡ false =
      none_of taken x (λ t. true≢false (sym (closure.closed x y t not_done e) ∙ stays y h)) in
      let placed = (not_taken x (whole.writers x y e) out).0 in
      ⊎_elim (λ d. inl d) (λ in_xs. inr (list_has x in_xs out)) (after_cases done xs x placed))
      (cases_Bool (set.contains done x))

  in_turn : (x y : ℕ) → Contains list y → entry n.earlier y x ≡ true
      → Has done x ⊎ (Contains list x × (place_in list x < place_in list y))
  in_turn x y h e =
      ⊎_elim (λ d. inl d)
      (λ in_list.
      ⊎_elim (λ d. inl d)
      (λ stands.
      inr (
        in_list,
        rising_place (place_in xs) list
            (rising-filter (λ a b. place_in xs a < place_in xs b) keep xs
            (places_rise xs (turns_distinct n.earlier all done xs turns))) x y in_list h stands.1,
      ))
      (turns_in_turn n.earlier all done xs turns x y (there y h) e))
      (used x y h (whole.used x y e))

  meets : MeetsConstraints n all done list
  meets =
      record {
        distinct = distinct-filter keep xs (turns_distinct n.earlier all done xs turns);
        within = λ a h. turns_within n.earlier all done xs turns a (there a h);
        not_done = λ a h. turns_new n.earlier all done xs turns a (there a h);
        used = used;
        in_turn = in_turn;
        late = λ x y h e.
            set.is_subset-contains nat_cmp_total (slice_index_or n.late y set.empty) done
            (not_taken y (turns_within n.earlier all done xs turns y (there y h)) (stays y h)).1 x e;
      }

  module _ (other : List ℕ) (m : MeetsConstraints n all done other) where
    in_order : (a : ℕ) → Contains other a → Contains xs a
    in_order a h =
        ⊎_elim (λ d. absurd (true≢false (sym d ∙ m.not_done a h))) (λ t. t)
        (after_cases done xs a
        (none_missed n.earlier all (after done xs) (none_ready n.earlier all done xs turns) done (after_more done xs) other
        (along_places n.earlier all done other m.distinct m.in_turn) m.within a h))

    can_stay : CanStay n.users done first other
    can_stay =
        record {
          stays = λ b h.
              is_first_is b
              ∙ (let ok : (set.contains (after done xs) b && has_late n.late done b) ≡ true =
              and_from (set.contains (after done xs) b) (has_late n.late done b) (after_has done xs b (in_order b h))
              (set.contains-is_subset nat_cmp_total (slice_index_or n.late b set.empty) done (λ q e. m.late q b h e)) in
              ap (λ t. set.contains all b && not t) ok ∙ and_right (set.contains all b) false refl);
          not_done = m.not_done;
          used = λ x b h e. m.used x b h e;
        }

    largest : HasAll list other
    largest a h = list_has a (in_order a h) (closure.spares other can_stay a h)

    least : HasAll other list → IsAtMost list other
    least has =
        kept_least n.earlier all keep done xs other turns
        (record {
          distinct = m.distinct;
          of_all = m.within;
          is_kept = largest;
          has = has;
          before = done;
          fewer = λ a h. h;
          along = along_places n.earlier all done other m.distinct m.in_turn;
        })

  pub is_largest_list : IsLargestList n all done list
  is_largest_list = record { meets = meets; largest = largest; least = least }
