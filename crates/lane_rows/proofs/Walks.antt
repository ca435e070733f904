-- Pivot by pivot, the entries become the walks whose numbers in between are among the pivots.
use Rattle.std.proofs.Common.{◌≡◌, ◌↔◌, ℕ, ◌+◌, ◌<◌, true, ◌||◌, ◌&&◌, List, [], ◌∷◌, ◌++◌, length, inl, inr, refl, sym, ap, ◌∙◌, subst, arith}
use Rattle.std.proofs.lemmas.Bool.{or_cases, or_left, or_right, and_parts, and_from, cases_lt}
use Rattle.lane_rows.specs.Matrix.{entry, IsWalk, Leads}
use Rattle.lane_rows.proofs.Rows.{Rows, starts_within}

-- a walk whose numbers in between are below a bound
abbrev pub IsWalkBelow : Rows → ℕ → ℕ → List ℕ → ℕ → Type 0
IsWalkBelow rows bound a [] b = entry rows a b ≡ true
IsWalkBelow rows bound a (next ∷ between) b =
    (next < bound) × ((entry rows a next ≡ true) × IsWalkBelow rows bound next between b)

abbrev pub LeadsBelow : Rows → ℕ → ℕ → ℕ → Type 0
LeadsBelow rows bound a b = (between : List ℕ) × IsWalkBelow rows bound a between b

-- the entries now are the walks over pivots below a bound
pub record IsClosedBelow (rows now : Rows) (bound : ℕ) : Type 0 where
  pub size : length now ≡ length rows
  pub leads : (a b : ℕ) → (entry now a b ≡ true) ↔ LeadsBelow rows bound a b

walk_below_none : (rows : Rows) (a : ℕ) (between : List ℕ) (b : ℕ) → IsWalkBelow rows 0 a between b
    → entry rows a b ≡ true
walk_below_none rows a [] b walk = walk
walk_below_none rows a (next ∷ between) b walk = absurd (omega (arith, walk.0))

pub closed_none : (rows : Rows) → IsClosedBelow rows rows 0
closed_none rows = record { size = refl; leads = λ a b. (λ e. ([], e), λ l. walk_below_none rows a l.0 b l.1) }

wider : (rows : Rows) (bound a : ℕ) (between : List ℕ) (b : ℕ) → IsWalkBelow rows bound a between b
    → IsWalkBelow rows (bound + 1) a between b
wider rows bound a [] b walk = walk
wider rows bound a (next ∷ between) b walk =
    (omega (arith, walk.0), (walk.1.0, wider rows bound next between b walk.1.1))

joined : (rows : Rows) (bound a : ℕ) (first : List ℕ) (p : ℕ) (second : List ℕ) (b : ℕ) → p < bound
    → IsWalkBelow rows bound a first p → IsWalkBelow rows bound p second b
    → IsWalkBelow rows bound a (first ++ p ∷ second) b
joined rows bound a [] p second b below x y = (below, (x, y))
joined rows bound a (next ∷ first) p second b below x y =
    (x.0, (x.1.0, joined rows bound next first p second b below x.1.1 y))

module _ (rows now new : Rows) (p : ℕ) (h : IsClosedBelow rows now p)
    (over : (a b : ℕ) → entry new a b ≡ (entry now a b || (entry now a p && entry now p b))) where
  to_walk : (a b : ℕ) → entry new a b ≡ true → LeadsBelow rows (p + 1) a b
  to_walk a b e =
      elim (or_cases (entry now a b) (entry now a p && entry now p b) (sym (over a b) ∙ e)) [
        | inl direct ↦ let l = (h.leads a b).0 direct in (l.0, wider rows p a l.0 b l.1)
        | inr both ↦
            let parts = and_parts (entry now a p) (entry now p b) both in
            let x = (h.leads a p).0 parts.0 in
            let y = (h.leads p b).0 parts.1 in (
              x.0 ++ p ∷ y.0,
              joined rows (p + 1) a x.0 p y.0 b (omega arith) (wider rows p a x.0 p x.1) (wider rows p p y.0 b y.1),
            )
      ]

  direct_entry : (a b : ℕ) → entry now a b ≡ true → entry new a b ≡ true
  direct_entry a b e = over a b ∙ or_left (entry now a b) (entry now a p && entry now p b) e

  over_entry : (a b : ℕ) → entry now a p ≡ true → entry now p b ≡ true → entry new a b ≡ true
  over_entry a b x y =
      over a b
      ∙ or_right (entry now a b) (entry now a p && entry now p b) (and_from (entry now a p) (entry now p b) x y)

  longer : (a next b : ℕ) → next < p → entry rows a next ≡ true → entry now next b ≡ true → entry now a b ≡ true
  longer a next b below e rest = let l = (h.leads next b).0 rest in (h.leads a b).1 (next ∷ l.0, (below, (e, l.1)))

  from_walk : (a : ℕ) (between : List ℕ) (b : ℕ) → IsWalkBelow rows (p + 1) a between b → entry new a b ≡ true
  from_walk a [] b walk = direct_entry a b ((h.leads a b).1 ([], walk))
  from_walk a (next ∷ between) b walk =
      let rest =
      or_cases (entry now next b) (entry now next p && entry now p b) (sym (over next b)
      ∙ from_walk next between b walk.1.1) in
      elim (cases_lt next p) [
        | inl below ↦ elim rest [
          | inl direct ↦ direct_entry a b (longer a next b below walk.1.0 direct)
          | inr both ↦
              let parts = and_parts (entry now next p) (entry now p b) both in
              over_entry a b (longer a next p below walk.1.0 parts.0) parts.1
        ]
        | inr least ↦
            let same : next ≡ p = omega (arith, walk.0) in
            let first : entry now a p ≡ true = (h.leads a p).1 ([], ap (λ k. entry rows a k) (sym same) ∙ walk.1.0) in
            elim rest [
              | inl direct ↦ over_entry a b first (ap (λ k. entry now k b) (sym same) ∙ direct)
              | inr both ↦ over_entry a b first (and_parts (entry now next p) (entry now p b) both).1
            ]
      ]

  -- the entries over one pivot more
  pub closed_more : length new ≡ length now → IsClosedBelow rows new (p + 1)
  closed_more size = record {
    size = size ∙ h.size;
    leads = λ a b. (to_walk a b, λ l. from_walk a l.0 b l.1);
  }

starts : (rows : Rows) (a : ℕ) (between : List ℕ) (b : ℕ) → IsWalk rows a between b → a < length rows
starts rows a [] b walk = starts_within rows a b walk
starts rows a (next ∷ between) b walk = starts_within rows a next walk.0

within : (rows : Rows) (a : ℕ) (between : List ℕ) (b : ℕ) → IsWalk rows a between b
    → IsWalkBelow rows (length rows) a between b
within rows a [] b walk = walk
within rows a (next ∷ between) b walk = (starts rows next between b walk.1, (walk.0, within rows next between b walk.1))

unbounded : (rows : Rows) (bound a : ℕ) (between : List ℕ) (b : ℕ) → IsWalkBelow rows bound a between b
    → IsWalk rows a between b
unbounded rows bound a [] b walk = walk
unbounded rows bound a (next ∷ between) b walk = (walk.1.0, unbounded rows bound next between b walk.1.1)

-- over all pivots, the entries are all walks
pub closed_all : (rows now : Rows) (bound : ℕ) → bound ≡ length rows → IsClosedBelow rows now bound
    → (a b : ℕ) → (entry now a b ≡ true) ↔ Leads rows a b
closed_all rows now bound all h a b = (
  λ e. let l = (h.leads a b).0 e in (l.0, unbounded rows bound a l.0 b l.1),
  λ l. (h.leads a b).1 (l.0, subst (λ n. IsWalkBelow rows n a l.0 b) (sym all) (within rows a l.0 b l.1)),
)
