-- Addresses in the sequence of an inorder pass: by key at a node, by block in its visit, by child and kid.
use Rattle.std.proofs.Common.{◌≡◌, ◌≢◌, ℕ, suc, ◌<◌, ◌≤◌, ◌==◌, ◌&&◌, Bool, true, false, if◌then◌else◌, refl, sym, ◌∙◌, ap, subst₂, inl, inr, ⊎_elim, arith, eqb-true, eq-eqb, List, [], ◌∷◌, ◌++◌, filter, Contains}
use Rattle.std.proofs.lemmas.Bool.{cases_lt}
use Rattle.ftl_model.specs.lists.Lists.{Before}
use Rattle.ftl_model.proofs.lists.Elements.{in_filter}
use Rattle.ftl_model.proofs.lists.Rising.{Mapped, Rising, in_map}
use Rattle.ftl_model.proofs.lists.Sorted.{in_sorted}
use Rattle.ftl_model.specs.layout.AttributeGrammar.{AttributeGrammar, Sort, attributes_of, inherited, input, local, synthesized}
use Rattle.ftl_model.specs.layout.Path.{Path, down, one_more, top}
use Rattle.ftl_model.specs.layout.Solves.{Instance, instance_of}
use Rattle.ftl_model.specs.layout.Worked.{numbers}
use Rattle.ftl_order.specs.orders.LegalOrder.{address, turn_by, turn_of, way_to}
use Rattle.ftl_order.specs.orders.Schedule.{IsOnePass, Placing, SchedulePlace}
use Rattle.ftl_order.specs.orders.Sequence.{is_in_pass, is_same_sort, keyed, steps_at}
use Rattle.ftl_order.proofs.orders.LegalOrders.{computed}
use Rattle.ftl_order.proofs.orders.Rows.{way_before}

pub both_true : (p q : Bool) → (p && q) ≡ true → (p ≡ true) × (q ≡ true)
both_true true q h = (refl, h)
both_true false q h = absurd (let z : ⊥ = grind arith in z)

pub same_sort : (a b : Sort) → is_same_sort a b ≡ true → a ≡ b
same_sort input input h = refl
same_sort inherited inherited h = refl
same_sort synthesized synthesized h = refl
same_sort local local h = refl
same_sort input inherited h = absurd (let z : ⊥ = grind arith in z)
same_sort input synthesized h = absurd (let z : ⊥ = grind arith in z)
same_sort input local h = absurd (let z : ⊥ = grind arith in z)
same_sort inherited input h = absurd (let z : ⊥ = grind arith in z)
same_sort inherited synthesized h = absurd (let z : ⊥ = grind arith in z)
same_sort inherited local h = absurd (let z : ⊥ = grind arith in z)
same_sort synthesized input h = absurd (let z : ⊥ = grind arith in z)
same_sort synthesized inherited h = absurd (let z : ⊥ = grind arith in z)
same_sort synthesized local h = absurd (let z : ⊥ = grind arith in z)
same_sort local input h = absurd (let z : ⊥ = grind arith in z)
same_sort local inherited h = absurd (let z : ⊥ = grind arith in z)
same_sort local synthesized h = absurd (let z : ⊥ = grind arith in z)

module _ (g : AttributeGrammar) (at : Placing) where
  abbrev pub EarlierAddress : Instance → Instance → Type 0
  EarlierAddress i j = Before (address at (turn_of g i)) (address at (turn_of g j))

  -- the address of an instance of a kind
  pub address_by : (sort : Sort) (q : Path) (a : ℕ) → g.sort a ≡ sort
      → address at (turn_of g (instance_of q a)) ≡ address at (turn_by sort q a)
  address_by sort q a e = ap (λ s. address at (turn_by s q a)) e

  pub key_before : (sort : Sort) (q : Path) (a b : ℕ) → sort ≢ input → (at a).index < (at b).index
      → Before (address at (turn_by sort q a)) (address at (turn_by sort q b))
  key_before input q a b computed less = absurd (computed refl)
  key_before inherited top a b computed less =
      inr (refl, inr (refl, inr (refl, inr (refl, inl less))))
  key_before inherited (down c k p) a b computed less =
      way_before p (1 ∷ (c ∷ (k ∷ (0 ∷ ((at a).index ∷ []))))) (1 ∷ (c ∷ (k ∷ (0 ∷ ((at b).index ∷ [])))))
      (inr (refl, inr (refl, inr (refl, inr (refl, inl less)))))
  key_before synthesized q a b computed less =
      way_before q (2 ∷ (0 ∷ (0 ∷ (0 ∷ ((at a).index ∷ []))))) (2 ∷ (0 ∷ (0 ∷ (0 ∷ ((at b).index ∷ [])))))
      (inr (refl, inr (refl, inr (refl, inr (refl, inl less)))))
  key_before local q a b computed less =
      way_before q (0 ∷ (0 ∷ (0 ∷ (0 ∷ ((at a).index ∷ []))))) (0 ∷ (0 ∷ (0 ∷ (0 ∷ ((at b).index ∷ [])))))
      (inr (refl, inr (refl, inr (refl, inr (refl, inl less)))))

  -- the address goes this way on from a node: into a block of its visit, or to a kid
  pub record Goes (p : Path) (front : List ℕ) (i : Instance) : Type 0 where
    pub rest : List ℕ
    pub is : address at (turn_of g i) ≡ way_to p (front ++ rest)

  -- a later kid, by child and number
  pub record StillToCome (p : Path) (from : ℕ) (seen : ℕ → ℕ) (i : Instance) : Type 0 where
    pub child : ℕ
    pub kid : ℕ
    pub goes : Goes p (1 ∷ (child ∷ (kid ∷ []))) i
    pub later_child : from ≤ child
    pub later_kid : seen child ≤ kid

  pub goes_before : (p : Path) (fi fj : List ℕ) (i j : Instance) → Goes p fi i → Goes p fj j
      → ((ri rj : List ℕ) → Before (fi ++ ri) (fj ++ rj)) → EarlierAddress i j
  goes_before p fi fj i j gi gj less =
      subst₂ Before (sym gi.is) (sym gj.is) (way_before p (fi ++ gi.rest) (fj ++ gj.rest) (less gi.rest gj.rest))

  pub into_kid : (c n b : ℕ) (p : Path) (i : Instance) → Goes (down c n p) (b ∷ []) i
      → Goes p (1 ∷ (c ∷ (n ∷ (1 ∷ (b ∷ []))))) i
  into_kid c n b p i h = record { rest = h.rest; is = h.is }

  pub into_block : (q : Path) (from : ℕ) (seen : ℕ → ℕ) (i : Instance) → StillToCome q from seen i → Goes q (1 ∷ []) i
  into_block q from seen i h = record { rest = h.child ∷ (h.kid ∷ h.goes.rest); is = h.goes.is }

  pub at_kid : (c n e : ℕ) (p : Path) (i : Instance) → Goes p (1 ∷ (c ∷ (n ∷ (e ∷ [])))) i
      → Goes p (1 ∷ (c ∷ (n ∷ []))) i
  at_kid c n e p i h = record { rest = e ∷ h.rest; is = h.is }

  -- a kid comes before all that are still to come
  pub kid_first : (c : ℕ) (seen : ℕ → ℕ) (p : Path) (i j : Instance) → Goes p (1 ∷ (c ∷ (seen c ∷ []))) i
      → StillToCome p c (one_more c seen) j → EarlierAddress i j
  kid_first c seen p i j here there =
      goes_before p (1 ∷ (c ∷ (seen c ∷ []))) (1 ∷ (there.child ∷ (there.kid ∷ []))) i j here there.goes
      (λ ri rj. inr
      (refl, ⊎_elim (λ less. inl less) (λ more. inr (same more, inl (later more))) (cases_lt c there.child)))
    where
      same : there.child ≤ c → c ≡ there.child
      same more = let l = there.later_child in omega (arith, l, more)

      later : there.child ≤ c → seen c < there.kid
      later more =
          let count : one_more c seen there.child ≡ suc (seen there.child) =
          ap (λ b. if b then suc (seen there.child) else seen there.child) (eq-eqb c there.child (same more)) in
          let k = there.later_kid in
          let s : seen c ≡ seen there.child = ap seen (same more) in
          omega (arith, count, k, s)

  pub record RisesBelow (p : Path) (from : ℕ) (seen : ℕ → ℕ) (is : List Instance) : Type 0 where
    pub rising : Rising EarlierAddress is
    pub to_come : (i : Instance) → Contains is i → StillToCome p from seen i

module _ (g : AttributeGrammar) (at : Placing) (x : SchedulePlace) where
  -- a keyed attribute is of its class, of its kind, and in the pass
  pub record Keyed (sort : Sort) (k a : ℕ) : Type 0 where
    pub of : Contains (attributes_of g k) a
    pub sort_is : g.sort a ≡ sort
    pub pass : IsOnePass (at a) x

  pub is_keyed : (sort : Sort) (k a : ℕ) → Contains (keyed g at x sort k) a → Keyed sort k a
  is_keyed sort k a h =
      let among = in_filter (λ a. is_same_sort (g.sort a) sort && is_in_pass at x a) (attributes_of g k) a
      (in_sorted (λ a. (at a).index)
      (filter (λ a. is_same_sort (g.sort a) sort && is_in_pass at x a) (attributes_of g k)) a h) in
      let tests = both_true (is_same_sort (g.sort a) sort) (is_in_pass at x a) among.1 in
      let numbers = both_true ((at a).stage == x.stage) ((at a).pass == x.pass) tests.1 in
      record {
        of = among.0;
        sort_is = same_sort (g.sort a) sort tests.0;
        pass = (eqb-true (at a).stage x.stage numbers.0, eqb-true (at a).pass x.pass numbers.1);
      }

  pub steps_go : (sort : Sort) (k : ℕ) (q : Path) (i : Instance) → Contains (steps_at g at x sort k q) i
      → Mapped (instance_of q) (keyed g at x sort k) i
  steps_go sort k q i h = in_map (instance_of q) (keyed g at x sort k) i h

  pub local_goes : (k : ℕ) (q : Path) (i : Instance) → Contains (steps_at g at x local k q) i → Goes g at q (0 ∷ []) i
  local_goes k q i h =
      let m = steps_go local k q i h in
      record {
        rest = 0 ∷ (0 ∷ (0 ∷ ((at m.from).index ∷ [])));
        is = ap (λ j. address at (turn_of g j)) (sym m.is)
            ∙ address_by g at local q m.from (is_keyed local k m.from m.there).sort_is;
      }

  pub synthesized_goes : (k : ℕ) (q : Path) (i : Instance) → Contains (steps_at g at x synthesized k q) i
      → Goes g at q (2 ∷ []) i
  synthesized_goes k q i h =
      let m = steps_go synthesized k q i h in
      record {
        rest = 0 ∷ (0 ∷ (0 ∷ ((at m.from).index ∷ [])));
        is = ap (λ j. address at (turn_of g j)) (sym m.is)
            ∙ address_by g at synthesized q m.from (is_keyed synthesized k m.from m.there).sort_is;
      }

  pub inherited_goes : (k c n : ℕ) (p : Path) (i : Instance) → Contains (steps_at g at x inherited k (down c n p)) i
      → Goes g at p (1 ∷ (c ∷ (n ∷ (0 ∷ [])))) i
  inherited_goes k c n p i h =
      let m = steps_go inherited k (down c n p) i h in
      record {
        rest = (at m.from).index ∷ [];
        is =
            ap (λ j. address at (turn_of g j)) (sym m.is)
            ∙ address_by g at inherited (down c n p) m.from (is_keyed inherited k m.from m.there).sort_is;
      }
