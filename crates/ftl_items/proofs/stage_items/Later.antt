-- Items hand on to later ones alone.
use Rattle.std.proofs.Common.{◌≡◌, ◌≢◌, ℕ, zero, suc, ◌+◌, ◌-◌, ◌<◌, ◌==◌, Bool, true, false, cond, refl, sym, ◌∙◌, ap, subst, inl, inr, ⊎_elim, arith, eqb-true, List, [], ◌∷◌, ◌++◌, filter, get_or, length, length-append, Contains}
use Rattle.std.specs.List.{range_with_len}
use Rattle.std.proofs.lemmas.List.Elements.{Contains-get_or, filter-append}
use Rattle.ftl_cells.specs.shared.Count.{Counts, at_zero, counts_it, skips_it}
use Rattle.ftl_model.specs.lists.Lists.{AreDistinct}
use Rattle.ftl_model.proofs.lists.Elements.{later_in, range_has}
use Rattle.ftl_model.specs.layout.Path.{Above, Has, Path, number_of, preorder, top}
use Rattle.ftl_model.specs.layout.Tree.{Forest, IsTree}
use Rattle.ftl_order.specs.orders.Schedule.{PassKind, bottomup, inorder, topdown}
use Rattle.ftl_order.proofs.orders.Ranges.{above_range}
use Rattle.ftl_items.specs.stage_items.Cut.{PassCut, begins_by, starts, tops_by}
use Rattle.ftl_items.specs.stage_items.Items.{Item, hands_on, is_next_by, is_parent, item, items_by, items_of_cut, kinds_of, no_item, predecessors_by}
use Rattle.ftl_items.proofs.stage_items.Ahead.{Ahead, ahead-filter, ahead-map, ahead-reverse, ahead_inside, ahead_rising}
use Rattle.ftl_items.proofs.stage_items.CutItems.{distinct-items, in_tops_by, item_here}
use Rattle.ftl_items.proofs.stage_items.HandingLaws.{both, kid_of}
use Rattle.ftl_items.proofs.stage_items.Subtrees.{preorder_has, rising-subtree}

-- what stands ahead, or behind, is there
ahead_second : {X : Type 0} (xs : List X) (x y : X) → Ahead xs x y → Contains xs y
ahead_second [] x y h = absurd h
ahead_second (z ∷ zs) x y (inl h) = later_in z y zs h.1
ahead_second (z ∷ zs) x y (inr h) = later_in z y zs (ahead_second zs x y h)

-- among entries that differ, what stands ahead has the smaller place
pub earlier : {X : Type 0} (xs : List X) (i j : ℕ) (d : X) → AreDistinct xs → i < length xs → j < length xs
    → Ahead xs (get_or xs i d) (get_or xs j d) → i < j
earlier [] i j d once bi bj ahead = absurd ahead
earlier (x ∷ xs) i zero d once bi bj h =
    absurd (once.0 (⊎_elim (λ here. here.1) (λ later. ahead_second xs (get_or (x ∷ xs) i d) x later) h))
earlier (x ∷ xs) zero (suc j) d once bi bj h = omega arith
earlier (x ∷ xs) (suc i) (suc j) d once bi bj h =
    ⊎_elim
    (λ here. absurd
    (once.0 (subst (Contains xs) (sym here.0) (Contains-get_or xs i d (omega (arith, bi))))))
    (λ later.
    let less = earlier xs i j d once.1 (omega (arith, bi)) (omega (arith, bj)) later in
    let z : suc i < suc j = omega (arith, less) in
    z)
    h

-- ---- counts

range-snoc : (a n : ℕ) → range_with_len a (suc n) ≡ range_with_len a n ++ ((a + n) ∷ [])
range-snoc a zero = ap (λ m. m ∷ []) (let z : a ≡ a + 0 = omega arith in z)
range-snoc a (suc n) =
    ap (λ r. a ∷ r)
    (range-snoc (a + 1) n
    ∙ ap (λ m. range_with_len (a + 1) n ++ (m ∷ [])) (let z : (a + 1) + n ≡ a + suc n = omega arith in z))

abbrev tick : Bool → ℕ
tick b = cond b 1 0

one_more_tick : (b : Bool) (k : ℕ) → length (cond b (k ∷ []) []) ≡ tick b
one_more_tick true k = refl
one_more_tick false k = refl

length-filter-snoc : (test : ℕ → Bool) (n : ℕ)
    → length (filter test (range_with_len 0 (suc n)))
    ≡ length (filter test (range_with_len 0 n)) + tick (test n)
length-filter-snoc test n =
    ap (λ r. length (filter test r)) (range-snoc 0 n ∙ ap (λ m. range_with_len 0 n ++ (m ∷ [])) (let z : 0 + n ≡ n = omega arith in z))
    ∙ ap length (filter-append test (range_with_len 0 n) (n ∷ []))
    ∙ length-append (filter test (range_with_len 0 n)) (filter test (n ∷ []))
    ∙ ap (λ m. length (filter test (range_with_len 0 n)) + m) (one_more_tick (test n) n)

-- of the numbers below a bound
counts_test : (test : ℕ → Bool) (n : ℕ) → Counts (λ k. test k ≡ true) n (length (filter test (range_with_len 0 n)))
counts_test test zero = at_zero
counts_test test (suc n) =
    let i = counts_test test n in
    let e = length-filter-snoc test n in
    elim (test n) as
    (λ b. (test n ≡ b) → Counts (λ k. test k ≡ true) (suc n) (length (filter test (range_with_len 0 (suc n))))) [
      | true ↦ λ f.
          subst (Counts (λ k. test k ≡ true) (suc n))
          (let g = ap tick f in
          let z : suc (length (filter test (range_with_len 0 n))) ≡ length (filter test (range_with_len 0 (suc n))) =
          omega (arith, e, g) in
          z)
          (counts_it f i)
      | false ↦ λ f.
          subst (Counts (λ k. test k ≡ true) (suc n))
          (let g = ap tick f in
          let z : length (filter test (range_with_len 0 n)) ≡ length (filter test (range_with_len 0 (suc n))) =
          omega (arith, e, g) in
          z)
          (skips_it (λ h. let z : ⊥ = grind (arith, f, h) in z) i)
    ]
    refl

-- where no number from i on passes
counts_below : (test : ℕ → Bool) (i m : ℕ) → ((k : ℕ) → k < i + m → test k ≡ true → k < i)
    → length (filter test (range_with_len 0 (i + m))) ≡ length (filter test (range_with_len 0 i))
counts_below test i zero low = ap (λ n. length (filter test (range_with_len 0 n))) (let z : i + 0 ≡ i = omega arith in z)
counts_below test i (suc m) low =
    let e = length-filter-snoc test (i + m) in
    let same : i + suc m ≡ suc (i + m) = omega arith in
    let none : test (i + m) ≡ false = fails (test (i + m)) (λ f.
    let less = low (i + m) (omega arith) f in
    let z : ⊥ = omega (arith, less) in
    z) in
    let g = ap tick none in
    ap (λ n. length (filter test (range_with_len 0 n))) same
    ∙ (let z : length (filter test (range_with_len 0 (suc (i + m)))) ≡ length (filter test (range_with_len 0 (i + m))) =
    omega (arith, e, g) in
    z)
    ∙ counts_below test i m (λ k below f. low k (omega (arith, below)) f)
  where
    fails : (b : Bool) → (b ≡ true → ⊥) → b ≡ false
    fails true h = absurd (h refl)
    fails false h = refl

pub counts_to : (test : ℕ → Bool) (i n : ℕ) → i < n → ((k : ℕ) → k < n → test k ≡ true → k < i)
    → Counts (λ k. test k ≡ true) i (length (filter test (range_with_len 0 n)))
counts_to test i n less low =
    let m = n - i in
    let same : i + m ≡ n = omega (arith, less) in
    subst (λ c. Counts (λ k. test k ≡ true) i c)
    (sym (counts_below test i m (λ k below f. low k (omega (arith, below, same)) f))
    ∙ ap (λ l. length (filter test (range_with_len 0 l))) same)
    (counts_test test i)

-- ---- items

module _ (is_whole : Path → Bool) (t : Forest) (is : IsTree t) where
  -- items of one pass in preorder
  begun_ahead : (p q : Path) → Has t p → Has t q → begins_by is_whole p ≡ true → begins_by is_whole q ≡ true
      → number_of t p < number_of t q → Ahead (filter (begins_by is_whole) (preorder t)) p q
  begun_ahead p q hp hq bp bq less =
      ahead-filter (begins_by is_whole) (preorder t) p q
      (ahead_rising (number_of t) (preorder t) (rising-subtree t top is) p q (preorder_has t p hp) (preorder_has t q hq)
      less) bp bq

  parent_first : (p q : Path) → Has t q → is_parent p q ≡ true → number_of t p < number_of t q
  parent_first p q h e =
      let kid = kid_of p q e in
      (above_range t p q h (subst (Above p) (sym kid.is) (inl refl))).0

  tops_ahead : (kind : PassKind) (p q : Path) → Contains (tops_by kind is_whole t) p
      → Contains (tops_by kind is_whole t) q → hands_on kind p q ≡ true → Ahead (tops_by kind is_whole t) p q
  tops_ahead topdown p q hp hq e =
      let some : topdown ≢ inorder = λ x. let z : ⊥ = cc in z in
      let ip = in_tops_by is_whole t topdown some is p hp in
      let iq = in_tops_by is_whole t topdown some is q hq in
      begun_ahead p q ip.0 iq.0 ip.1 iq.1 (parent_first p q iq.0 e)
  tops_ahead bottomup p q hp hq e =
      let some : bottomup ≢ inorder = λ x. let z : ⊥ = cc in z in
      let ip = in_tops_by is_whole t bottomup some is p hp in
      let iq = in_tops_by is_whole t bottomup some is q hq in
      ahead-reverse (filter (begins_by is_whole) (preorder t)) q p
      (begun_ahead q p iq.0 ip.0 iq.1 ip.1 (parent_first q p ip.0 e))
  tops_ahead inorder p q hp hq e = absurd (let z : ⊥ = grind (arith, e) in z)

module _ (count : ℕ) (cuts : ℕ → PassCut) (t : Forest) (is : IsTree t) where
  abbrev xs : List Item
  xs = items_by count cuts t

  items_ahead : (x y : Item) → Contains xs x → Contains xs y → is_next_by (kinds_of cuts) x y ≡ true → Ahead xs x y
  items_ahead x y hx hy e =
      let ix = item_here count cuts t x hx in
      let iy = item_here count cuts t y hy in
      let b = both (x.pass == y.pass) (hands_on (cuts x.pass).kind x.first y.first) e in
      let same : x.pass ≡ y.pass = eqb-true x.pass y.pass b.0 in
      let known = ix.known in
      subst (λ m. Ahead xs x (item m y.first)) same
      (ahead_inside (items_of_cut cuts t) (range_with_len 0 count) x.pass x (item x.pass y.first)
      (range_has 0 count x.pass (omega arith) (omega (arith, known)))
      (ahead-map (item x.pass) (starts cuts t x.pass) x.first y.first
      (tops_ahead (cuts x.pass).is_whole t is (cuts x.pass).kind x.first y.first ix.there
      (subst (λ m. Contains (starts cuts t m) y.first) (sym same) iy.there) b.1)))

  pub next_later : (i k : ℕ) → i < length xs → k < length xs
      → is_next_by (kinds_of cuts) (get_or xs i no_item) (get_or xs k no_item) ≡ true → i < k
  next_later i k bi bk e =
      earlier xs i k no_item (distinct-items count cuts t) bi bk
      (items_ahead (get_or xs i no_item) (get_or xs k no_item) (Contains-get_or xs i no_item bi)
      (Contains-get_or xs k no_item bk) e)

  pub predecessors_counted : (i : ℕ) → i < length xs
      → Counts (λ k. is_next_by (kinds_of cuts) (get_or xs k no_item) (get_or xs i no_item) ≡ true) i
      (length (predecessors_by (kinds_of cuts) xs i))
  predecessors_counted i bi =
      counts_to (λ k. is_next_by (kinds_of cuts) (get_or xs k no_item) (get_or xs i no_item)) i (length xs) bi
      (λ k bk e. next_later k i bk bi e)
