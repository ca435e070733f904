-- A legal order stays legal where a step and what must come before it are brought forward.
use Rattle.std.proofs.Common.{◌≡◌, ◌⊎◌, ℕ, zero, suc, ◌<◌, Bool, true, false, not, refl, sym, ◌∙◌, subst, inl, inr, ⊎_elim, arith, List, [], ◌∷◌, ◌++◌, length, get_or, filter, Contains}
use Rattle.std.proofs.lemmas.List.Elements.{Contains-append_cases, Contains-append_left, Contains-append_right}
use Rattle.ftl_model.specs.lists.Lists.{AreDistinct, StandsBefore}
use Rattle.ftl_model.proofs.lists.Elements.{distinct-append, distinct-filter, filter_has, here_in, in_filter, later_in}
use Rattle.ftl_model.proofs.lists.Rising.{Rising, rising-append, rising_at}
use Rattle.ftl_items.proofs.stage_items.Ahead.{Ahead, ahead-filter, ahead_left, stands_ahead}
use Rattle.ftl_model.specs.layout.AttributeGrammar.{AttributeGrammar}
use Rattle.ftl_model.specs.layout.Solves.{Instance}
use Rattle.ftl_model.specs.layout.Tree.{Forest}
use Rattle.ftl_order.specs.orders.LegalOrder.{IsLegalBy, IsStep}
use Rattle.ftl_example.specs.orders.PlainOrder.{TellsEarly, parted}
use Rattle.ftl_example.proofs.orders.Orders.{NotLate, legal_by, legal_rises, rising-filter}

not_true : (b : Bool) → not b ≡ true → b ≡ false
not_true true e = let z : ⊥ = grind arith in absurd z
not_true false e = refl

not_false : (b : Bool) → b ≡ false → not b ≡ true
not_false true e = let z : ⊥ = grind arith in absurd z
not_false false e = refl

true_or_false : (b : Bool) → (b ≡ true) ⊎ (b ≡ false)
true_or_false true = inl refl
true_or_false false = inr refl

pub both_ways : (b : Bool) → b ≡ true → b ≡ false → ⊥
both_ways b e f = let z : ⊥ = grind (arith, e, f) in z

pub no_twice : (xs : List Instance) → AreDistinct xs → (i j : Instance) → StandsBefore xs i j → i ≡ j → ⊥
no_twice [] d i j h e = let b = h.3 in omega (arith, b)
no_twice (x ∷ xs) d i j h e = go (λ h. no_twice xs d.1 i j h e) h.0 h.1 h.2 h.3 h.4 h.5
  where
    go : (StandsBefore xs i j → ⊥) → (m n : ℕ) → m < n → n < length (x ∷ xs) → ((d : Instance) → get_or (x ∷ xs) m d ≡ i)
        → ((d : Instance) → get_or (x ∷ xs) n d ≡ j) → ⊥
    go next m zero l b em en = omega (arith, l)
    go next zero (suc n) l b em en =
        d.0 (n, let z : n < length xs = omega (arith, b) in z, en x ∙ sym e ∙ sym (em x))
    go next (suc m) (suc n) l b em en =
        next
        (m, n, (let z : m < n = omega (arith, l) in z), (let z : n < length xs = omega (arith, b) in z), em, en)

-- none of two that differ stands both ahead and behind
ahead_both : {X : Type 0} (xs : List X) (x y : X) → Ahead xs x y → Contains xs x × Contains xs y
ahead_both [] x y h = absurd h
ahead_both (z ∷ zs) x y (inl h) = (subst (Contains (z ∷ zs)) h.0 (here_in z zs), later_in z y zs h.1)
ahead_both (z ∷ zs) x y (inr h) = let i = ahead_both zs x y h in (later_in z x zs i.0, later_in z y zs i.1)

back_and_forth : {X : Type 0} (xs : List X) → AreDistinct xs → (x y : X) → Ahead xs x y → Ahead xs y x → ⊥
back_and_forth [] d x y h k = absurd h
back_and_forth (z ∷ zs) d x y (inl h) (inl k) = d.0 (subst (Contains zs) (sym k.0) h.1)
back_and_forth (z ∷ zs) d x y (inl h) (inr k) = d.0 (subst (Contains zs) (sym h.0) (ahead_both zs y x k).1)
back_and_forth (z ∷ zs) d x y (inr h) (inl k) = d.0 (subst (Contains zs) (sym k.0) (ahead_both zs x y h).1)
back_and_forth (z ∷ zs) d x y (inr h) (inr k) = back_and_forth zs d.1 x y h k

module _ (g : AttributeGrammar) (t : Forest) (First : Instance → Instance → Type 0) (order : List Instance)
    (legal : IsLegalBy g t First order) (test : Instance → Bool)
    (closed : (i j : Instance) → IsStep g t i → IsStep g t j → First i j → test j ≡ true → test i ≡ true) where
  abbrev early : List Instance
  early = filter test order

  abbrev late : List Instance
  late = filter (λ i. not (test i)) order

  in_late : (i : Instance) → Contains late i → Contains order i × (test i ≡ false)
  in_late i h = let f = in_filter (λ i. not (test i)) order i h in (f.0, not_true (test i) f.1)

  parted_steps : (i : Instance) → Contains (early ++ late) i → IsStep g t i
  parted_steps i h =
      ⊎_elim (λ e. legal.steps i (in_filter test order i e).0) (λ l. legal.steps i (in_late i l).0)
      (Contains-append_cases early late i h)

  parted_all : (i : Instance) → IsStep g t i → Contains (early ++ late) i
  parted_all i step =
      ⊎_elim (λ e. Contains-append_left early late i (filter_has test order i (legal.all i step) e))
      (λ e. Contains-append_right early late i
      (filter_has (λ i. not (test i)) order i (legal.all i step) (not_false (test i) e)))
      (true_or_false (test i))

  pub parted_once : AreDistinct (early ++ late)
  parted_once =
      distinct-append early late (distinct-filter test order legal.once)
      (distinct-filter (λ i. not (test i)) order legal.once)
      (λ i he hl. both_ways (test i) (in_filter test order i he).1 (in_late i hl).1)

  parted_rises : Rising (NotLate First) (early ++ late)
  parted_rises =
      rising-append (NotLate First) early late
      (rising-filter (NotLate First) test order (legal_rises g t First order legal))
      (rising-filter (NotLate First) (λ i. not (test i)) order (legal_rises g t First order legal))
      (λ i j hi hj first.
      both_ways (test j)
      (closed j i (legal.steps j (in_late j hj).0) (legal.steps i (in_filter test order i hi).0) first
      (in_filter test order i hi).1) (in_late j hj).1)

  pub closed_legal : IsLegalBy g t First (parted test order)
  closed_legal = legal_by g t First (early ++ late) parted_steps parted_all parted_once parted_rises

  -- whatever stands before an early step is early
  abbrev EarlyFirst : Instance → Instance → Type 0
  EarlyFirst a b = test b ≡ true → test a ≡ true

  all_early : (xs : List Instance) → ((i : Instance) → Contains xs i → test i ≡ true) → Rising EarlyFirst xs
  all_early [] h = tt
  all_early (x ∷ xs) h = ((λ y there e. h x (here_in x xs)), all_early xs (λ i there. h i (later_in x i xs there)))

  none_early : (xs : List Instance) → ((i : Instance) → Contains xs i → test i ≡ false) → Rising EarlyFirst xs
  none_early [] h = tt
  none_early (x ∷ xs) h = (
    (λ y there e. absurd (both_ways (test y) e (h y (later_in x y xs there)))),
    none_early xs (λ i there. h i (later_in x i xs there)),
  )

  early_rises : Rising EarlyFirst (early ++ late)
  early_rises =
      rising-append EarlyFirst early late (all_early early (λ i h. (in_filter test order i h).1))
      (none_early late (λ i h. (in_late i h).1)) (λ i j hi hj e. (in_filter test order i hi).1)

  -- so what stands before an early step is one
  pub before_early : (w r : Instance) → test r ≡ true → StandsBefore (parted test order) w r → test w ≡ true
  before_early w r e h =
      let up = rising_at EarlyFirst (early ++ late) early_rises h.0 h.1 r h.2 h.3 in
      subst (λ z. test z ≡ true) (h.4 r) (up (subst (λ z. test z ≡ true) (sym (h.5 r)) e))

  -- two early steps keep their order
  pub early_kept : (r w : Instance) → test r ≡ true → test w ≡ true → Ahead order r w → StandsBefore (parted test order) w r
      → ⊥
  early_kept r w early_r early_w ahead h =
      back_and_forth (early ++ late) parted_once r w
      (ahead_left early late r w (ahead-filter test order r w ahead early_r early_w)) (stands_ahead (early ++ late) w r h)

-- the test that tells a step and what must come before it
module _ (g : AttributeGrammar) (t : Forest) (First : Instance → Instance → Type 0) (order : List Instance)
    (chain : (i j k : Instance) → First i j → First j k → First i k) (legal : IsLegalBy g t First order) (r : Instance)
    (test : Instance → Bool) (tells : TellsEarly First r test) where
  -- what must come first of an early step is early
  first_early : (i j : Instance) → First i j → test j ≡ true → test i ≡ true
  first_early i j first e =
      tells.1 i (inr (⊎_elim (λ same. subst (First i) same first) (λ next. chain i j r first next) (tells.0 j e)))

  pub parted_legal : IsLegalBy g t First (parted test order)
  parted_legal = closed_legal g t First order legal test (λ i j step_i step_j. first_early i j)

  pub parted_free : (w : Instance) → (First w r → ⊥) → StandsBefore (parted test order) w r → ⊥
  parted_free w free h =
      let w_early = before_early g t First order legal test (λ i j step_i step_j. first_early i j) w r (tells.1 r (inl refl)) h in
      ⊎_elim (λ same. no_twice (parted test order) (parted_once g t First order legal test (λ i j step_i step_j. first_early i j)) w r h same) free
      (tells.0 w w_early)
