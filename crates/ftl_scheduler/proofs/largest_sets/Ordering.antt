-- The loop that puts attributes in order.
use Rattle.std.proofs.Common.{◌≡◌, ◌⊎◌, ℕ, ◌||◌, ◌&&◌, not, Bool, true, false, refl, sym, ◌∙◌, ap, subst, inl, inr, ⊎_elim}
use Rattle.std.proofs.Common.{List, [], ◌∷◌, ◌++◌, append_assoc, append-nil, slice_index_or}
use Rattle.std.specs.Cmp.{nat_cmp_total}
use Rattle.std.specs.FinSet as set
use Rattle.std.proofs.lemmas.Bool.{and_from, and_parts, cases_Bool, false_from_ne_true, or_cases, or_left, or_right, true≢false}
use Rattle.lane_rows.specs.Least.{IsLeastOf}
use Rattle.lane_rows.specs.Matrix.{entry}
use Rattle.ftl_scheduler.specs.largest_sets.Rows.{Row}
use Rattle.ftl_scheduler.specs.largest_sets.Turns.{IsTurn, Turns, after, is_ready}
use Rattle.ftl_scheduler.proofs.largest_sets.Leaving.{minus_none, minus_parts}
use Rattle.ftl_scheduler.proofs.largest_sets.Turns.{after-append, put_cases, put_more, ready_more}

-- what may be taken next
abbrev pub may_come : List Row → (all placed : Row) → ℕ → Bool
may_come earlier all placed b = set.contains all b && is_ready earlier placed b

-- what is in order so far, and what is ready behind it
pub record IsOrdering (earlier : List Row) (all start placed : Row) (turns : List ℕ) (ready : Row) : Type 0 where
  pub rest : (ys : List ℕ) → Turns earlier all placed ys → Turns earlier all start (turns ++ ys)
  pub place : placed ≡ after start turns
  pub may : (b : ℕ) → set.contains ready b ≡ may_come earlier all placed b

iff_same : (t u : Bool) → (t ≡ true → u ≡ true) → (u ≡ true → t ≡ true) → t ≡ u
iff_same true u f b = sym (f refl)
iff_same false u f b = sym (false_from_ne_true u (λ h. true≢false (sym (b h))))

module _ (earlier followers : List Row) (all : Row) (turned : (x y : ℕ) → entry followers x y ≡ entry earlier y x) where
  pub ordering_start : (start ready : Row) → ((b : ℕ) → set.contains ready b ≡ may_come earlier all start b)
      → IsOrdering earlier all start start [] ready
  ordering_start start ready e = record { rest = λ ys t. t; place = refl; may = e }

  -- what is ready once one more is placed was ready, or follows it
  came : (placed : Row) (a b : ℕ) → is_ready earlier (set.insert placed a) b ≡ true
      → (is_ready earlier placed b ≡ true) ⊎ (entry followers a b ≡ true)
  came placed a b e =
      ⊎_elim (λ f. inr (turned a b ∙ f))
      (λ no.
      inl (set.contains-is_subset nat_cmp_total (slice_index_or earlier b set.empty) placed
      (λ q h.
      ⊎_elim (λ same. absurd (true≢false (sym (subst (λ c. entry earlier b c ≡ true) same h) ∙ no))) (λ old. old)
      (put_cases placed a q
      (set.is_subset-contains nat_cmp_total (slice_index_or earlier b set.empty) (set.insert placed a) e q h)))))
      (cases_Bool (entry earlier b a))

  may_after : (placed : Row) (ready new : Row) (a : ℕ) → ((b : ℕ) → set.contains ready b ≡ may_come earlier all placed b)
      → ((b : ℕ) → set.contains new b
      ≡ (set.contains ready b || (entry followers a b && may_come earlier all (set.insert placed a) b)))
      → (b : ℕ) → set.contains new b ≡ may_come earlier all (set.insert placed a) b
  may_after placed ready new a old more b =
      iff_same (set.contains new b) (may_come earlier all (set.insert placed a) b)
      (λ h.
      ⊎_elim
      (λ was.
      let both = and_parts (set.contains all b) (is_ready earlier placed b) (sym (old b) ∙ was) in
      and_from (set.contains all b) (is_ready earlier (set.insert placed a) b) both.0
      (ready_more earlier placed (set.insert placed a) b (put_more placed a) both.1))
      (λ now. (and_parts (entry followers a b) (may_come earlier all (set.insert placed a) b) now).1)
      (or_cases (set.contains ready b) (entry followers a b && may_come earlier all (set.insert placed a) b)
      (sym (more b) ∙ h)))
      (λ h.
      let both = and_parts (set.contains all b) (is_ready earlier (set.insert placed a) b) h in
      more b
      ∙ ⊎_elim
      (λ was.
      or_left (set.contains ready b) (entry followers a b && may_come earlier all (set.insert placed a) b)
      (old b ∙ and_from (set.contains all b) (is_ready earlier placed b) both.0 was))
      (λ follows.
      or_right (set.contains ready b) (entry followers a b && may_come earlier all (set.insert placed a) b)
      (and_from (entry followers a b) (may_come earlier all (set.insert placed a) b) follows h))
      (came placed a b both.1))

  module _ (start placed : Row) (turns : List ℕ) (ready : Row) (o : IsOrdering earlier all start placed turns ready) where
    is_turn : (a : ℕ) → IsLeastOf (set.difference ready placed) a → IsTurn earlier all placed a
    is_turn a least =
        let of_both = minus_parts ready placed a least.is_in in
        let may = and_parts (set.contains all a) (is_ready earlier placed a) (sym (o.may a) ∙ of_both.0) in
        record {
          within = may.0;
          is_new = of_both.1;
          ready = may.1;
          least = λ b less in_all is.
              ⊎_elim (λ there. there)
              (λ out.
              absurd (true≢false (sym (set.contains-difference nat_cmp_total ready placed b
              ∙ and_from (set.contains ready b) (not (set.contains placed b))
              (o.may b ∙ and_from (set.contains all b) (is_ready earlier placed b) in_all is)
              (ap not out)) ∙ least.none_below b less)))
              (cases_Bool (set.contains placed b));
        }

    pub ordering_more : (a : ℕ) (new_turns : List ℕ) (new_placed new_ready : Row)
        → IsLeastOf (set.difference ready placed) a → new_turns ≡ turns ++ a ∷ [] → new_placed ≡ set.insert placed a
        → ((b : ℕ) → set.contains new_ready b
        ≡ (set.contains ready b || (entry followers a b && may_come earlier all new_placed b)))
        → IsOrdering earlier all start new_placed new_turns new_ready
    ordering_more a new_turns new_placed new_ready least e f more =
        subst (λ ts. IsOrdering earlier all start new_placed ts new_ready) (sym e)
        (subst (λ p. IsOrdering earlier all start p (turns ++ a ∷ []) new_ready) (sym f)
        (record {
          rest = λ ys t.
              subst (λ zs. Turns earlier all start zs) (sym (append_assoc turns (a ∷ []) ys))
              (o.rest (a ∷ ys) (is_turn a least, t));
          place = ap (λ p. set.insert p a) o.place ∙ sym (after-append start turns (a ∷ []));
          may = may_after placed ready new_ready a o.may
              (subst (λ p. (b : ℕ) → set.contains new_ready b
              ≡ (set.contains ready b || (entry followers a b && may_come earlier all p b))) f more);
        }))

    pub ordering_end : set.difference ready placed ≡ set.empty → Turns earlier all start turns
    ordering_end none =
        subst (λ zs. Turns earlier all start zs) (append-nil turns)
        (o.rest [] (λ b in_all is.
        minus_none ready placed none b (o.may b ∙ and_from (set.contains all b) (is_ready earlier placed b) in_all is)))
