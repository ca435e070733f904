-- Which nodes begin items, in one walk in preorder: those at or behind the end of the item before.
use Rattle.std.proofs.Common.{◌≡◌, ◌⊎◌, ℕ, suc, ◌+◌, ◌<◌, ◌≤◌, Bool, true, false, if◌then◌else◌, refl, sym, ◌∙◌, ap, subst, inl, inr, ⊎_elim, arith}
use Rattle.std.proofs.lemmas.Bool.{cases_lt}
use Rattle.ftl_model.specs.layout.Path.{Above, Has, Path, down, node_at, number_of, size_at, top}
use Rattle.ftl_model.specs.layout.Tree.{Forest, IsTree, below_of, size}
use Rattle.ftl_model.proofs.layout.Numbering.{has-node_at, number_of-node_at}
use Rattle.ftl_model.proofs.layout.Standing.{node_at-number_of}
use Rattle.ftl_order.proofs.orders.Ranges.{above_range, range_above}
use Rattle.ftl_items.specs.stage_items.Cut.{begins_by, is_open}
use Rattle.ftl_items.proofs.stage_items.Homes.{begins-home, has_above, home, home-above, open_all, whole_home}
use Rattle.ftl_cursors.specs.visits.ItemSteps.{node_count_by}

bool_cases : (b : Bool) → (b ≡ true) ⊎ (b ≡ false)
bool_cases true = inl refl
bool_cases false = inr refl

differ : {X : Type 0} (b : Bool) → b ≡ true → b ≡ false → X
differ true e f = absurd (let z : ⊥ = grind arith in z)
differ false e f = absurd (let z : ⊥ = grind arith in z)

module _ (is_whole : Path → Bool) (t : Forest) where
  -- how many nodes there are
  abbrev nodes : ℕ
  nodes = suc (size (below_of t))

  -- some whole tree that begins an item before node n has node m below it
  abbrev pub Covered : (n m : ℕ) → Type 0
  Covered n m =
      (q : Path) × Has t q × (number_of t q < n) × (begins_by is_whole q ≡ true) × (is_whole q ≡ true)
      × Above q (node_at t m)

  -- from node n on, what is covered lies before this end
  abbrev pub EndsAt : (n end : ℕ) → Type 0
  EndsAt n end = (m : ℕ) → n ≤ m → m < nodes → (Covered n m → m < end) × (m < end → Covered n m)

  module _ (is : IsTree t) where
    there : (n : ℕ) → n < nodes → Has t (node_at t n)
    there n b = has-node_at t n is b

    number : (n : ℕ) → n < nodes → number_of t (node_at t n) ≡ n
    number n b = number_of-node_at t n b

    begins_no_whole : (p : Path) → begins_by is_whole p ≡ true → (q : Path) → Above q p → is_whole q ≡ false
    begins_no_whole top e q above = absurd above
    begins_no_whole (down c k p) e q above = open_all is_whole p e q above

    begins_or : (p : Path) → (begins_by is_whole p ≡ true)
        ⊎ ((q : Path) × Above q p × (begins_by is_whole q ≡ true) × (is_whole q ≡ true))
    begins_or top = inl refl
    begins_or (down c k p) =
        ⊎_elim (λ e. inl e)
        (λ e. inr (home is_whole p, home-above is_whole p, begins-home is_whole p, whole_home is_whole p e))
        (bool_cases (is_open is_whole p))

    -- at first nothing is covered
    pub end_first : EndsAt 0 0
    end_first = λ m low b. (
      (λ c. let l = c.2 in absurd (let z : ⊥ = omega (arith, l) in z)),
      (λ l. absurd (let z : ⊥ = omega (arith, l) in z)),
    )

    -- an item begins at a node exactly where it lies at or behind the end
    pub begins_at : (n end : ℕ) → EndsAt n end → n < nodes
        → (begins_by is_whole (node_at t n) ≡ true → end ≤ n) × (end ≤ n → begins_by is_whole (node_at t n) ≡ true)
    begins_at n end fit b = (
      (λ e.
          ⊎_elim
          (λ less. let c = (fit n (omega arith) b).1 less in
          differ (is_whole c.0) c.4 (begins_no_whole (node_at t n) e c.0 c.5))
          (λ more. more) (cases_lt n end)),
      (λ behind.
          ⊎_elim (λ e. e)
          (λ up.
          let has = has_above t up.0 (node_at t n) (there n b) (inr up.1) in
          let less = (above_range t up.0 (node_at t n) (there n b) up.1).0 in
          let at = number n b in
          let low : number_of t up.0 < n = omega (arith, less, at) in
          let within = (fit n (omega arith) b).0 (up.0, has, low, up.2, up.3, up.1) in
          absurd (let z : ⊥ = omega (arith, within, behind) in z))
          (begins_or (node_at t n))),
    )

    -- a whole tree that begins an item covers up to its own end
    end_whole : (n end : ℕ) → EndsAt n end → n < nodes → end ≤ n → is_whole (node_at t n) ≡ true
        → EndsAt (suc n) (n + size_at t (node_at t n))
    end_whole n end fit b behind whole = λ m low bm.
        let at = number n b in
        let am = number m bm in (
          (λ c.
              ⊎_elim
              (λ less. let within = (fit m (omega (arith, low)) bm).0 (c.0, c.1, less, c.3, c.4, c.5) in
              absurd (let z : ⊥ = omega (arith, within, behind, low) in z))
              (λ more.
              let l = c.2 in
              let same_number : number_of t c.0 ≡ n = omega (arith, more, l) in
              let same : c.0 ≡ node_at t n = sym (node_at-number_of t c.0 c.1) ∙ ap (node_at t) same_number in
              let r =
              above_range t (node_at t n) (node_at t m) (there m bm) (subst (λ q. Above q (node_at t m)) same c.5) in
              let first = r.0 in
              let last = r.1 in
              omega (arith, first, last, at, am, has_size m bm)) (cases_lt (number_of t c.0) n)),
          (λ less. (
            node_at t n,
            there n b,
            (let z : number_of t (node_at t n) < suc n = omega (arith, at) in z),
            (begins_at n end fit b).1 behind,
            whole,
            range_above t (node_at t n) (node_at t m) (there n b) (there m bm)
                (omega (arith, at, am, low), omega (arith, at, am, less)),
          )),
        )
      where
        has_size : (m : ℕ) → m < nodes → 0 < size_at t (node_at t m)
        has_size m b = omega arith

    -- a node that begins no item of a whole tree covers nothing
    end_same : (n end : ℕ) → EndsAt n end → n < nodes
        → (begins_by is_whole (node_at t n) ≡ true → is_whole (node_at t n) ≡ true → ⊥)
        → EndsAt (suc n) end
    end_same n end fit b other = λ m low bm. (
      (λ c.
          ⊎_elim
          (λ less. (fit m (omega (arith, low)) bm).0 (c.0, c.1, less, c.3, c.4, c.5))
          (λ more.
          let l = c.2 in
          let same_number : number_of t c.0 ≡ n = omega (arith, more, l) in
          let same : c.0 ≡ node_at t n = sym (node_at-number_of t c.0 c.1) ∙ ap (node_at t) same_number in
          absurd
          (other (subst (λ q. begins_by is_whole q ≡ true) same c.3) (subst (λ q. is_whole q ≡ true) same c.4)))
          (cases_lt (number_of t c.0) n)),
      (λ less.
          let c = (fit m (omega (arith, low)) bm).1 less in
          let l = c.2 in
          (c.0, c.1, (let z : number_of t c.0 < suc n = omega (arith, l) in z), c.3, c.4, c.5)),
    )

    -- an end that is passed may be any that is passed
    end_passed : (n end other : ℕ) → end ≤ n → other ≤ n → EndsAt n end → EndsAt n other
    end_passed n end other behind past fit = λ m low b. (
      (λ c. let l = (fit m low b).0 c in absurd (let z : ⊥ = omega (arith, l, behind, low) in z)),
      (λ l. absurd (let z : ⊥ = omega (arith, l, past, low) in z)),
    )

    -- where an item begins, its own end is next
    pub end_next : (n end : ℕ) → EndsAt n end → n < nodes → end ≤ n
        → EndsAt (suc n) (n + node_count_by is_whole t (node_at t n))
    end_next n end fit b behind =
        elim (is_whole (node_at t n)) as
        (λ w. (is_whole (node_at t n) ≡ w) → EndsAt (suc n) (n + (if w then size_at t (node_at t n) else 1))) [
          | true ↦ λ whole. end_whole n end fit b behind whole
          | false ↦ λ alone.
              end_passed (suc n) end (n + 1) (omega (arith, behind)) (omega arith)
              (end_same n end fit b (λ begun whole. differ (is_whole (node_at t n)) whole alone))
        ]
        refl

    -- where none does, the end stays
    pub end_kept : (n end : ℕ) → EndsAt n end → n < nodes → n < end → EndsAt (suc n) end
    end_kept n end fit b before =
        end_same n end fit b
        (λ begun whole.
        let behind = (begins_at n end fit b).0 begun in
        let z : ⊥ = omega (arith, before, behind) in
        z)

    -- and the node begins no item
    pub begins_none : (n end : ℕ) → EndsAt n end → n < nodes → n < end → begins_by is_whole (node_at t n) ≡ false
    begins_none n end fit b before =
        ⊎_elim
        (λ begun. absurd
        (let behind = (begins_at n end fit b).0 begun in
        let z : ⊥ = omega (arith, before, behind) in
        z))
        (λ e. e) (bool_cases (begins_by is_whole (node_at t n)))
