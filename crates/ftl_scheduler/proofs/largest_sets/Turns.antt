-- The order of attributes in which each is the least that is ready.
use Rattle.std.proofs.Common.{◌≡◌, ◌≢◌, ◌⊎◌, ℕ, ◌<◌, ◌==◌, ◌||◌, Bool, true, false, cond}
use Rattle.std.proofs.Common.{refl, sym, ◌∙◌, ap, subst, inl, inr, ⊎_elim, arith, List, [], ◌∷◌, ◌++◌}
use Rattle.std.proofs.Common.{filter, Contains, eq-eqb, eqb-true, slice_index_or}
use Rattle.std.specs.Cmp.{nat_cmp_total}
use Rattle.std.specs.FinSet as set
use Rattle.std.proofs.lemmas.Bool.{cases_Bool, cases_order, or_cases, or_right, true≢false}
use Rattle.lane_rows.specs.Matrix.{entry}
use Rattle.lane_rows.proofs.Bits.{contains-insert_nat}
use Rattle.ftl_model.specs.lists.Lists.{AreDistinct, place_in}
use Rattle.ftl_model.proofs.lists.Elements.{here_in, in_cases, in_filter, later_in, nothing_in}
use Rattle.ftl_order.specs.automatic.Fitting.{IsAtMost}
use Rattle.ftl_order.proofs.automatic.Turns.{place_first, place_later}
use Rattle.ftl_scheduler.specs.largest_sets.Rows.{Has, Row}
use Rattle.ftl_scheduler.specs.largest_sets.Turns.{NoneReady, Turns, after, is_ready}

pub after-append : (placed : Row) (xs ys : List ℕ) → after placed (xs ++ ys) ≡ after (after placed xs) ys
after-append placed [] ys = refl
after-append placed (a ∷ xs) ys = after-append (set.insert placed a) xs ys

pub put_here : (placed : Row) (a : ℕ) → Has (set.insert placed a) a
put_here placed a = contains-insert_nat placed a a ∙ ap (λ t. t || set.contains placed a) (eq-eqb a a refl)

pub put_more : (placed : Row) (a b : ℕ) → Has placed b → Has (set.insert placed a) b
put_more placed a b h = contains-insert_nat placed a b ∙ or_right (b == a) (set.contains placed b) h

pub put_cases : (placed : Row) (a b : ℕ) → Has (set.insert placed a) b → (b ≡ a) ⊎ Has placed b
put_cases placed a b h =
    ⊎_elim (λ e. inl (eqb-true b a e)) (λ old. inr old)
    (or_cases (b == a) (set.contains placed b) (sym (contains-insert_nat placed a b) ∙ h))

-- a set has each number of another
abbrev pub Covers : Row → Row → Type 0
Covers big small = (a : ℕ) → Has small a → Has big a

pub ready_more : (earlier : List Row) (small big : Row) (b : ℕ) → Covers big small → is_ready earlier small b ≡ true
    → is_ready earlier big b ≡ true
ready_more earlier small big b more e =
    set.contains-is_subset nat_cmp_total (slice_index_or earlier b set.empty) big
    (λ q h. more q (set.is_subset-contains nat_cmp_total (slice_index_or earlier b set.empty) small e q h))

pub put_both : (small big : Row) (a : ℕ) → Covers big small → Covers (set.insert big a) (set.insert small a)
put_both small big a more b h =
    ⊎_elim (λ same. subst (Has (set.insert big a)) (sym same) (put_here big a)) (λ old. put_more big a b (more b old))
    (put_cases small a b h)

pub after_more : (placed : Row) (xs : List ℕ) → Covers (after placed xs) placed
after_more placed [] a h = h
after_more placed (x ∷ xs) a h = after_more (set.insert placed x) xs a (put_more placed x a h)

pub after_has : (placed : Row) (xs : List ℕ) (a : ℕ) → Contains xs a → Has (after placed xs) a
after_has placed [] a h = absurd (nothing_in a h)
after_has placed (x ∷ xs) a h =
    ⊎_elim
    (λ same. after_more (set.insert placed x) xs a (subst (Has (set.insert placed x)) same (put_here placed x)))
    (λ later. after_has (set.insert placed x) xs a later) (in_cases x a xs h)

pub after_cases : (placed : Row) (xs : List ℕ) (a : ℕ) → Has (after placed xs) a → Has placed a ⊎ Contains xs a
after_cases placed [] a h = inl h
after_cases placed (x ∷ xs) a h =
    ⊎_elim
    (λ old. ⊎_elim (λ same. inr (subst (Contains (x ∷ xs)) (sym same) (here_in x xs))) (λ o. inl o) (put_cases placed x a old))
    (λ later. inr (later_in x a xs later)) (after_cases (set.insert placed x) xs a h)

not_before : (placed : Row) (x a : ℕ) → set.contains (set.insert placed x) a ≡ false → set.contains placed a ≡ false
not_before placed x a e =
    ⊎_elim (λ h. absurd (true≢false (sym (put_more placed x a h) ∙ e))) (λ f. f) (cases_Bool (set.contains placed a))

module _ (earlier : List Row) (all : Row) where
  pub turns_new : (placed : Row) (xs : List ℕ) → Turns earlier all placed xs → (a : ℕ) → Contains xs a
      → set.contains placed a ≡ false
  turns_new placed [] t a h = absurd (nothing_in a h)
  turns_new placed (x ∷ xs) t a h =
      ⊎_elim (λ same. subst (λ b. set.contains placed b ≡ false) same t.0.is_new)
      (λ later. not_before placed x a (turns_new (set.insert placed x) xs t.1 a later)) (in_cases x a xs h)

  pub turns_within : (placed : Row) (xs : List ℕ) → Turns earlier all placed xs → (a : ℕ) → Contains xs a → Has all a
  turns_within placed [] t a h = absurd (nothing_in a h)
  turns_within placed (x ∷ xs) t a h =
      ⊎_elim (λ same. subst (Has all) same t.0.within)
      (λ later. turns_within (set.insert placed x) xs t.1 a later) (in_cases x a xs h)

  -- the first is none of those behind it
  pub first_alone : (placed : Row) (x : ℕ) (xs : List ℕ) → Turns earlier all placed (x ∷ xs) → Contains xs x → ⊥
  first_alone placed x xs t h =
      true≢false (sym (put_here placed x) ∙ turns_new (set.insert placed x) xs t.1 x h)

  pub turns_distinct : (placed : Row) (xs : List ℕ) → Turns earlier all placed xs → AreDistinct xs
  turns_distinct placed [] t = tt
  turns_distinct placed (x ∷ xs) t = (first_alone placed x xs t, turns_distinct (set.insert placed x) xs t.1)

  -- what is needed earlier is placed or stands earlier
  pub turns_in_turn : (placed : Row) (xs : List ℕ) → Turns earlier all placed xs → (x y : ℕ) → Contains xs y
      → entry earlier y x ≡ true → Has placed x ⊎ (Contains xs x × (place_in xs x < place_in xs y))
  turns_in_turn placed [] t x y h e = absurd (nothing_in y h)
  turns_in_turn placed (z ∷ xs) t x y h e =
      ⊎_elim
      (λ same.
      inl (set.is_subset-contains nat_cmp_total (slice_index_or earlier z set.empty) placed t.0.ready x
      (subst (λ b. entry earlier b x ≡ true) (sym same) e)))
      (λ later.
      let other : y ≢ z = λ same. first_alone placed z xs t (subst (Contains xs) same later) in
      let q = place_later z y xs other in
      ⊎_elim
      (λ old.
      ⊎_elim
      (λ same. inr (
        subst (Contains (z ∷ xs)) (sym same) (here_in z xs),
        (let p = ap (place_in (z ∷ xs)) same ∙ place_first z xs in omega (arith, p, q)),
      ))
      (λ o. inl o) (put_cases placed z x old))
      (λ new.
      inr (
        later_in z x xs new.0,
        (let p = place_later z x xs (λ same. first_alone placed z xs t (subst (Contains xs) same new.0)) in
            let less = new.1 in omega (arith, p, q, less)),
      ))
      (turns_in_turn (set.insert placed z) xs t.1 x y later e))
      (in_cases z y xs h)

  -- each entry is ready behind those before it
  abbrev pub Along : Row → List ℕ → Type 0
  Along placed [] = Unit {0}
  Along placed (b ∷ ys) = (is_ready earlier placed b ≡ true) × Along (set.insert placed b) ys

  -- none of a list in which each is ready is missed
  pub none_missed : (last : Row) → NoneReady earlier all last → (p : Row) → Covers last p → (ys : List ℕ) → Along p ys
      → ((y : ℕ) → Contains ys y → Has all y) → (y : ℕ) → Contains ys y → Has last y
  none_missed last none p cover [] along within y h = absurd (nothing_in y h)
  none_missed last none p cover (b ∷ ys) along within y h =
      let first = none b (within b (here_in b ys)) (ready_more earlier p last b cover along.0) in
      ⊎_elim (λ same. subst (Has last) same first)
      (λ later.
      none_missed last none (set.insert p b)
      (λ a there. ⊎_elim (λ same. subst (Has last) (sym same) first) (λ old. cover a old) (put_cases p b a there)) ys
      along.1 (λ z there. within z (later_in b z ys there)) y later) (in_cases b y ys h)

  pub none_ready : (placed : Row) (xs : List ℕ) → Turns earlier all placed xs → NoneReady earlier all (after placed xs)
  none_ready placed [] t = t
  none_ready placed (x ∷ xs) t = none_ready (set.insert placed x) xs t.1

  -- each entry is ready, where what it needs is placed or stands earlier
  pub along_places : (placed : Row) (ys : List ℕ) → AreDistinct ys
      → ((x y : ℕ) → Contains ys y → entry earlier y x ≡ true
      → Has placed x ⊎ (Contains ys x × (place_in ys x < place_in ys y)))
      → Along placed ys
  along_places placed [] d met = tt
  along_places placed (b ∷ ys) d met = (
    set.contains-is_subset nat_cmp_total (slice_index_or earlier b set.empty) placed
        (λ q h.
        ⊎_elim (λ old. old)
        (λ new. let less = new.1 in let first = place_first b ys in absurd (let z : ⊥ = omega (arith, less, first) in z))
        (met q b (here_in b ys) h)),
    along_places (set.insert placed b) ys d.1
        (λ x y there e.
        let other : y ≢ b = λ same. d.0 (subst (Contains ys) same there) in
        let q = place_later b y ys other in
        ⊎_elim (λ old. inl (put_more placed b x old))
        (λ new.
        ⊎_elim (λ same. inl (subst (Has (set.insert placed b)) same (put_here placed b)))
        (λ later.
        let p = place_later b x ys (λ same. d.0 (subst (Contains ys) same later)) in
        let less = new.1 in
        inr (later, omega (arith, p, q, less))) (in_cases b x ys new.0))
        (met x y (later_in b y ys there) e)),
  )

  at_most_later : (x y : ℕ) (xs ys : List ℕ) → x ≡ y → IsAtMost xs ys → IsAtMost (x ∷ xs) (y ∷ ys)
  at_most_later x y xs ys e h =
      ⊎_elim (λ same. inl (ap (λ z. z ∷ xs) e ∙ ap (λ zs. y ∷ zs) same)) (λ less. inr (inr (e, less))) h

  module _ (keep : ℕ → Bool) where
    -- another list of what is kept, in which each is ready
    pub record IsOther (placed : Row) (xs ys : List ℕ) : Type 0 where
      pub distinct : AreDistinct ys
      pub of_all : (y : ℕ) → Contains ys y → Has all y
      pub is_kept : (y : ℕ) → Contains ys y → Contains (filter keep xs) y
      pub has : (y : ℕ) → Contains (filter keep xs) y → Contains ys y
      pub before : Row
      pub fewer : Covers placed before
      pub along : Along before ys

    -- the entry is not kept
    skip : (placed : Row) (x : ℕ) (xs ys : List ℕ) → keep x ≡ false → IsOther placed (x ∷ xs) ys
        → IsOther (set.insert placed x) xs ys
    skip placed x xs ys e o =
        let same : filter keep (x ∷ xs) ≡ filter keep xs = ap (λ b. cond b (x ∷ filter keep xs) (filter keep xs)) e in
        record {
          distinct = o.distinct;
          of_all = o.of_all;
          is_kept = λ y h. subst (λ zs. Contains zs y) same (o.is_kept y h);
          has = λ y h. o.has y (subst (λ zs. Contains zs y) (sym same) h);
          before = o.before;
          fewer = λ a h. put_more placed x a (o.fewer a h);
          along = o.along;
        }

    -- both begin with one entry
    step : (placed : Row) (x b : ℕ) (xs ys : List ℕ) → Turns earlier all placed (x ∷ xs) → keep x ≡ true → x ≡ b
        → IsOther placed (x ∷ xs) (b ∷ ys) → IsOther (set.insert placed x) xs ys
    step placed x b xs ys t e same o =
        let kept : filter keep (x ∷ xs) ≡ x ∷ filter keep xs = ap (λ b. cond b (x ∷ filter keep xs) (filter keep xs)) e in
        record {
          distinct = o.distinct.1;
          of_all = λ y h. o.of_all y (later_in b y ys h);
          is_kept = λ y h.
              ⊎_elim (λ first. absurd (o.distinct.0 (subst (Contains ys) (sym first ∙ same) h))) (λ later. later)
              (in_cases x y (filter keep xs) (subst (λ zs. Contains zs y) kept (o.is_kept y (later_in b y ys h))));
          has = λ y h.
              ⊎_elim
              (λ first. absurd (first_alone placed x xs t
              (in_filter_of xs x (subst (Contains (filter keep xs)) (sym first ∙ sym same) h))))
              (λ later. later)
              (in_cases b y ys (o.has y (subst (λ zs. Contains zs y) (sym kept) (later_in x y (filter keep xs) h))));
          before = set.insert o.before b;
          fewer = subst (λ c. Covers (set.insert placed x) (set.insert o.before c)) same
              (put_both o.before placed x o.fewer);
          along = o.along.1;
        }
      where
        in_filter_of : (zs : List ℕ) (z : ℕ) → Contains (filter keep zs) z → Contains zs z
        in_filter_of zs z h = (in_filter keep zs z h).0

    -- what is kept in the order is at most each other list of it
    pub kept_least : (placed : Row) (xs ys : List ℕ) → Turns earlier all placed xs → IsOther placed xs ys
        → IsAtMost (filter keep xs) ys
    kept_least placed [] [] t o = inl refl
    kept_least placed [] (b ∷ ys) t o = absurd (nothing_in b (o.is_kept b (here_in b ys)))
    kept_least placed (x ∷ xs) ys t o =
        by (λ zs r. kept_least (set.insert placed x) xs zs t.1 r) ys o (keep x) refl
      where
        by : ((zs : List ℕ) → IsOther (set.insert placed x) xs zs → IsAtMost (filter keep xs) zs) → (ys : List ℕ) → IsOther placed (x ∷ xs) ys → (k : Bool) → keep x ≡ k
            → IsAtMost (cond k (x ∷ filter keep xs) (filter keep xs)) ys
        by rest ys o false e = rest ys (skip placed x xs ys e o)
        by rest [] o true e =
            absurd (nothing_in x (o.has x (subst (λ zs. Contains zs x)
            (sym (ap (λ b. cond b (x ∷ filter keep xs) (filter keep xs)) e)) (here_in x (filter keep xs)))))
        by rest (b ∷ ys) o true e =
            ⊎_elim (λ same. at_most_later x b (filter keep xs) ys same (rest ys (step placed x b xs ys t e same o)))
            (⊎_elim (λ less. inr (inl less))
            (λ more.
            let there = t.0.least b more (o.of_all b (here_in b ys))
            (ready_more earlier o.before placed b o.fewer o.along.0) in
            let new = turns_new placed (x ∷ xs) t b (in_filter keep (x ∷ xs) b (o.is_kept b (here_in b ys))).0 in
            absurd (true≢false (sym there ∙ new))))
            (cases_order x b)
