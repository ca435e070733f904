-- The rows of all starts.
use Rattle.std.proofs.Common.{◌≡◌, ◌⊎◌, ℕ, ◌+◌, ◌<◌, ◌≤◌, ◌==◌, ◌&&◌, ◌||◌, true, false, Bool, List, [], ◌∷◌, ◌++◌}
use Rattle.std.proofs.Common.{length, get_or, inl, inr, refl, sym, ap, ◌∙◌, subst, arith, eqb-true, eq-eqb}
use Rattle.std.specs.FinSet as set
use Rattle.std.proofs.lemmas.Bool.{or_cases, or_left, or_right, and_parts, and_from, cases_lt, cases_eq}
use Rattle.std.proofs.lemmas.List.{get_or-set_same, get_or-set_other, length-set, length-append, get_or-append-add}
use Rattle.std.proofs.lemmas.List.{get_or_append_left}
use lib.ListN.{set as set_at}
use Rattle.lane_rows.specs.Matrix.{entry, IsWalk}
use Rattle.lane_rows.proofs.Rows.{Rows}
use Rattle.ftl_noncircular.specs.walks.WalkTables.{AreLed, AreNearly, AreSameRows, AreWalks, EndWithin, IsExact}
use Rattle.ftl_noncircular.specs.walks.WalkTables.{IsFrom, IsLedFrom}
use Rattle.ftl_noncircular.proofs.walks.LedRows.{Row, exact_has, from_known}

-- ---- the first rows

pub record AreRowsFrom (edges : Rows) (starts : List ℕ) (rows : Rows) (count : ℕ) : Type 0 where
  pub size : length rows ≡ count
  pub each : (k : ℕ) → k < count → IsExact edges (get_or starts k 0) (get_or rows k set.empty)

-- ---- the rows after an entry

pub record AreLedBelow (edges rows now : Rows) (row : ℕ) (changed : Bool) : Type 0 where
  pub same : changed ≡ false → AreSameRows rows now
  pub size : length now ≡ length rows
  pub done : (k start : ℕ) → k < row → start < length edges → IsLedFrom edges start (get_or rows k set.empty)
      → IsExact edges start (get_or now k set.empty)
  pub rest : (k : ℕ) → row ≤ k → get_or now k set.empty ≡ get_or rows k set.empty

pub led_none : (edges rows : Rows) → AreLedBelow edges rows rows 0 false
led_none edges rows = record {
  same = λ e k h. refl;
  size = refl;
  done = λ k start h. absurd (omega arith);
  rest
      = λ k h. refl;
}

pub led_more : (edges rows now : Rows) (row : ℕ) (new : Row) (before changed : Bool)
    → AreLedBelow edges rows now row before → row < length now
    → (changed ≡ false → (before ≡ false) × (new ≡ get_or now row set.empty))
    → ((start : ℕ) → start < length edges → IsLedFrom edges start (get_or now row set.empty) → IsExact edges start new)
    → AreLedBelow edges rows (set_at now row new) (row + 1) changed
led_more edges rows now row new before changed h within stays led = record {
  same = λ e k below. elim (cases_eq k row) [
    | inl is ↦
        ap (λ j. get_or (set_at now row new) j set.empty) is
        ∙ get_or-set_same now row new set.empty within
        ∙ (stays e).1
        ∙ ap (λ j. get_or now j set.empty) (sym is)
        ∙ h.same (stays e).0 k below
    | inr other ↦ get_or-set_other now row k new set.empty other ∙ h.same (stays e).0 k below
  ];
  size = length-set now row new ∙ h.size;
  done = λ k start below known from. elim (cases_eq k row) [
    | inl same ↦
        let at : get_or (set_at now row new) k set.empty ≡ new =
        ap (λ j. get_or (set_at now row new) j set.empty) same ∙ get_or-set_same now row new set.empty within in
        let was : get_or rows k set.empty ≡ get_or now row set.empty =
        ap (λ j. get_or rows j set.empty) same ∙ sym (h.rest row (omega arith)) in
        subst (IsExact edges start) (sym at) (led start known (subst (IsLedFrom edges start) was from))
    | inr other ↦
        subst (IsExact edges start) (sym (get_or-set_other now row k new set.empty other))
        (h.done k start (omega arith) known from)
  ];
  rest = λ k from. get_or-set_other now row k new set.empty (λ e. omega arith) ∙ h.rest k (omega arith);
}

-- ---- one entry more

module _ (edges now : Rows) (from to : ℕ)
    (added : (a b : ℕ) → entry now a b ≡ (((a == from) && (b == to)) || entry edges a b)) where
  pub old_entry : (a b : ℕ) → entry edges a b ≡ true → entry now a b ≡ true
  old_entry a b e = added a b ∙ or_right ((a == from) && (b == to)) (entry edges a b) e

  pub new_entry : entry now from to ≡ true
  new_entry =
      added from to
      ∙ or_left ((from == from) && (to == to)) (entry edges from to)
      (and_from (from == from) (to == to) (eq-eqb from from refl) (eq-eqb to to refl))

  pub entry_cases : (a b : ℕ) → entry now a b ≡ true → ((a ≡ from) × (b ≡ to)) ⊎ (entry edges a b ≡ true)
  entry_cases a b e =
      elim (or_cases ((a == from) && (b == to)) (entry edges a b) (sym (added a b) ∙ e)) [
        | inl both ↦
            let parts = and_parts (a == from) (b == to) both in
            inl (eqb-true a from parts.0, eqb-true b to parts.1)
        | inr old ↦ inr old
      ]

  old_walk : (a : ℕ) (between : List ℕ) (b : ℕ) → IsWalk edges a between b → IsWalk now a between b
  old_walk a [] b walk = old_entry a b walk
  old_walk a (next ∷ between) b walk = (old_entry a next walk.0, old_walk next between b walk.1)

  old_from : (start b : ℕ) → IsFrom edges start b → IsFrom now start b
  old_from start b (inl same) = inl same
  old_from start b (inr led) = inr (led.0, old_walk start led.0 b led.1)

  pub ends_still : length now ≡ length edges → to < length edges → EndWithin edges → EndWithin now
  ends_still size known ends a b e = elim (entry_cases a b e) [
    | inl both ↦ omega (arith, both.1, known, size)
    | inr old ↦ let below = ends a b old in omega (arith, below, size)
  ]

  pub nearly : length now ≡ length edges → EndWithin edges → (starts : List ℕ) (rows : Rows)
      → AreWalks edges starts rows → AreNearly now from to rows
  nearly size ends starts rows h k below = record {
    known = λ b there.
        let exact = h.each k below in
        let low = from_known edges ends (get_or starts k 0) b exact.known (exact.led b there) in
        omega (arith, low, size);
    closed = λ a b there e. elim (entry_cases a b e) [
      | inl both ↦ inl both
      | inr old ↦ inr ((h.each k below).closed a b there old)
    ];
  }

  -- where no row has changed, walks lead to no more
  pub no_further : (starts : List ℕ) (rows new : Rows) → AreWalks edges starts rows → AreWalks now starts new
      → AreSameRows rows new → (k b : ℕ) → k < length starts → IsFrom now (get_or starts k 0) b
      → IsFrom edges (get_or starts k 0) b
  no_further starts rows new old h same k b below from =
      let within : k < length rows = let c = old.count in omega (arith, below, c) in
      let within_new : k < length new = let c = h.count in omega (arith, below, c) in
      (old.each k within).led b
      (subst (λ r. set.contains r b ≡ true) (same k within)
      (exact_has now (get_or starts k 0) (get_or new k set.empty) (h.each k within_new) b from))

  pub walks_now : length now ≡ length edges → to < length edges → (starts : List ℕ) (rows new : Rows)
      → AreWalks edges starts rows → length new ≡ length rows → AreLed now rows new → AreWalks now starts new
  walks_now size known starts rows new h count led = record {
    ends = ends_still size known h.ends;
    count = count ∙ h.count;
    each = λ k below.
        let old : k < length rows = omega (arith, below, count) in
        let exact = h.each k old in
        led k (get_or starts k 0) old (let low = exact.known in omega (arith, low, size))
        (record { here = exact.here; led = λ b there. old_from (get_or starts k 0) b (exact.led b there) });
  }

pub rows_none : (edges : Rows) (starts : List ℕ) (rows : Rows) → rows ≡ [] → AreRowsFrom edges starts rows 0
rows_none edges starts rows is = record { size = ap length is; each = λ k h. absurd (omega arith) }

pub rows_more : (edges : Rows) (starts : List ℕ) (rows new : Rows) (count start : ℕ) (row : Row)
    → AreRowsFrom edges starts rows count → new ≡ rows ++ row ∷ [] → get_or starts count 0 ≡ start
    → IsExact edges start row → AreRowsFrom edges starts new (count + 1)
rows_more edges starts rows new count start row h is at exact = record {
  size = ap length is ∙ omega (arith, length-append rows (row ∷ []), h.size);
  each = λ k below. elim (cases_lt k count) [
    | inl old ↦
        subst (IsExact edges (get_or starts k 0))
        (sym (ap (λ r. get_or r k set.empty) is
        ∙ get_or_append_left rows (row ∷ []) set.empty k (let s = h.size in omega (arith, old, s))))
        (h.each k old)
    | inr last ↦
        let same : k ≡ length rows + 0 = let s = h.size in omega (arith, below, last, s) in
        let same_count : k ≡ count = omega (arith, below, last) in
        subst (λ s. IsExact edges s (get_or new k set.empty)) (sym (ap (λ j. get_or starts j 0) same_count ∙ at))
        (subst (IsExact edges start)
        (sym (ap (λ r. get_or r k set.empty) is
        ∙ ap (λ j. get_or (rows ++ row ∷ []) j set.empty) same
        ∙ get_or-append-add rows (row ∷ []) 0 set.empty)) exact)
  ];
}

pub rows_are : (edges : Rows) (starts : List ℕ) (rows : Rows) (count : ℕ) → EndWithin edges → length starts ≤ count
    → count ≤ length starts → AreRowsFrom edges starts rows count → AreWalks edges starts rows
rows_are edges starts rows count ends most least h = record {
  ends = ends;
  count = let s = h.size in omega (arith, most, least, s);
  each = λ k below. h.each k (let s = h.size in omega (arith, below, s));
}
