-- All kids of a node, counted child after child.
use Rattle.std.proofs.Common.{◌≡◌, ℕ, zero, suc, ◌+◌, ◌-◌, ◌<◌, ◌≤◌, sym, ◌∙◌, ap, arith, [], ◌∷◌, flat_map, get_or, length, length-append, take}
use Rattle.std.specs.List.{range_with_len}
use Rattle.std.proofs.lemmas.List.{take_at}
use Rattle.std.proofs.lemmas.List.Concat.{get_or-flat_map}
use Rattle.std.proofs.lemmas.List.FromFn.{get_or-map-range_with_len, get_or-range_with_len, length-map-range_with_len, length-range_with_len}
use Rattle.std.proofs.lemmas.Grind.{flat_map-append}
use Rattle.ftl_model.specs.layout.Path.{Path, down, kids_at, number_of}
use Rattle.ftl_model.specs.layout.Tree.{Forest}
use Rattle.ftl_items.proofs.numbers.RisingLists.{range-append}
use Rattle.ftl_tree.specs.rows.KidRuns.{kid_numbers}

pub take-range : (m n : ℕ) → m ≤ n → take m (range_with_len 0 n) ≡ range_with_len 0 m
take-range m n low =
    let e : m + (n - m) ≡ n = omega (arith, low) in
    ap (λ k. take m (range_with_len 0 k)) (sym e)
    ∙ ap (take m) (range-append 0 m (n - m))
    ∙ take_at (range_with_len 0 m) (range_with_len (0 + m) (n - m)) m (length-range_with_len 0 m)

module _ (t : Forest) (p : Path) where
  -- how many stand in the first so many children
  abbrev pub kids_before : ℕ → ℕ
  kids_before n = length (flat_map (kid_numbers t p) (range_with_len 0 n))

  length-kids : (c : ℕ) → length (kid_numbers t p c) ≡ kids_at t p c
  length-kids c = length-map-range_with_len (λ k. number_of t (down c k p)) 0 (kids_at t p c)

  pub kids_next : (n : ℕ) → kids_before (n + 1) ≡ kids_before n + kids_at t p n
  kids_next n =
      let f = kid_numbers t p in
      let none : length (f (0 + n)) + 0 ≡ length (f (0 + n)) = omega arith in
      let same : 0 + n ≡ n = omega arith in
      ap (λ ns. length (flat_map f ns)) (range-append 0 n 1)
      ∙ ap length (flat_map-append f (range_with_len 0 n) ((0 + n) ∷ []))
      ∙ length-append (flat_map f (range_with_len 0 n)) (flat_map f ((0 + n) ∷ []))
      ∙ ap (λ m. kids_before n + m)
      (length-append (f (0 + n)) [] ∙ none ∙ ap (λ c. length (f c)) same ∙ length-kids n)

  kids_rise : (m n : ℕ) → kids_before m ≤ kids_before (m + n)
  kids_rise m zero =
      let e : m ≡ m + 0 = omega arith in
      let same = ap kids_before e in
      omega (arith, same)
  kids_rise m (suc n) =
      let e : m + suc n ≡ (m + n) + 1 = omega arith in
      let same = ap kids_before e in
      let i = kids_rise m n in
      let next = kids_next (m + n) in
      omega (arith, same, i, next)

  pub kids_within : (m n : ℕ) → m ≤ n → kids_before m ≤ kids_before n
  kids_within m n low =
      let e : m + (n - m) ≡ n = omega (arith, low) in
      let same = ap kids_before e in
      let i = kids_rise m (n - m) in
      omega (arith, same, i)

  -- the kids of a child stand behind those of the children before
  pub kid_entry : (count c k place : ℕ) → c < count → k < kids_at t p c → k + kids_before c ≡ place
      → get_or (flat_map (kid_numbers t p) (range_with_len 0 count)) place 0 ≡ number_of t (down c k p)
  kid_entry count c k place known below is =
      let f = kid_numbers t p in
      let ns = range_with_len 0 count in
      let here : get_or ns c 0 ≡ c = get_or-range_with_len 0 count c 0 known ∙ (let e : 0 + c ≡ c = omega arith in e) in
      let len : length (f (get_or ns c 0)) ≡ kids_at t p c = ap (λ d. length (f d)) here ∙ length-kids c in
      let at : place ≡ kids_before c + k = omega (arith, is) in
      ap (λ n. get_or (flat_map f ns) n 0) at
      ∙ ap (λ cs. get_or (flat_map f ns) (length (flat_map f cs) + k) 0)
      (sym (take-range c count (omega (arith, known))))
      ∙ get_or-flat_map f ns c k 0 0 (omega (arith, known, length-range_with_len 0 count)) (omega (arith, below, len))
      ∙ ap (λ d. get_or (f d) k 0) here
      ∙ get_or-map-range_with_len (λ k. number_of t (down c k p)) 0 (kids_at t p c) k k 0 below (omega arith)
