-- How many items an item hands on to, and how many hand on to it.
use Rattle.std.proofs.Common.{◌≡◌, ℕ, suc, ◌+◌, ◌-◌, ◌<◌, ◌≤◌, ◌==◌, Bool, true, false, if◌then◌else◌, refl, sym, ◌∙◌, ap, arith, ne_eqb, List, [], ◌∷◌, get_or, length, map, reverse, Contains}
use Rattle.std.specs.List.{range_with_len}
use Rattle.std.proofs.lemmas.List.{get_or-map, length-map, length-reverse}
use Rattle.std.proofs.lemmas.List.Elements.{Contains-get_or}
use Rattle.ftl_model.specs.lists.Lists.{AreDistinct}
use Rattle.ftl_model.proofs.lists.Elements.{in_filter, in_range_from}
use Rattle.ftl_model.specs.layout.AttributeGrammar.{AttributeGrammar}
use Rattle.ftl_model.specs.layout.Path.{Has, Path, down, number_of, top}
use Rattle.ftl_model.specs.layout.Tree.{Forest, below_of, size}
use Rattle.ftl_model.specs.layout.TreeOf.{IsTreeOf}
use Rattle.ftl_model.proofs.layout.Standing.{number_of-lt}
use Rattle.ftl_order.specs.orders.Schedule.{PassKind, bottomup, topdown}
use Rattle.ftl_items.specs.stage_items.Items.{Item, is_next_by, nexts_by, no_item}
use Rattle.ftl_items.proofs.stage_items.Fewer.{fewer}
use Rattle.ftl_items.specs.numbers.ItemNumbers.{all_kids, first_nodes_by, item_above_by, items_before_by, items_below_by}
use Rattle.ftl_items.proofs.numbers.KidNumbers.{in_kids, kids_rise}
use Rattle.ftl_items.proofs.numbers.RisingLists.{Rises}

-- what an item hands on to is an item
pub next_below : (kinds : ℕ → PassKind) (xs : List Item) (i k : ℕ) → k < length (nexts_by kinds xs i)
    → get_or (nexts_by kinds xs i) k 0 < length xs
next_below kinds xs i k below =
    let test : ℕ → _ = λ k. is_next_by kinds (get_or xs i no_item) (get_or xs k no_item) in
    let there = in_filter test (range_with_len 0 (length xs)) (get_or (nexts_by kinds xs i) k 0)
    (Contains-get_or (nexts_by kinds xs i) k 0 below) in
    let range = (in_range_from 0 (length xs) (get_or (nexts_by kinds xs i) k 0) there.0).1 in
    omega (arith, range)

pub length-item_above : (kind : PassKind) (is_whole : Path → Bool) (t : Forest) (start : ℕ) (p : Path)
    → length (item_above_by kind is_whole t start p) ≡ (if number_of t p == 0 then 0 else 1)
length-item_above kind is_whole t start top = refl
length-item_above kind is_whole t start (down c k p) =
    let n = number_of t (down c k p) in
    let apart : n == 0 ≡ false = ne_eqb n 0 (λ e. let z : ⊥ = omega (arith, e) in z) in
    sym (ap (λ b. if b then 0 else 1) apart)

module _ (g : AttributeGrammar) (is_whole : Path → Bool) (t : Forest) (start : ℕ) (p : Path) where
  pub length-below_down : length (items_below_by topdown g is_whole t start p)
      ≡ (if is_whole p then 0 else length (all_kids g t p))
  length-below_down =
      elim (is_whole p) as
      (λ b. length {A = ℕ} (if b then [] else map (λ n. start + items_before_by is_whole t n) (all_kids g t p))
      ≡ (if b then 0 else length (all_kids g t p)))
      [ true ↦ refl | false ↦ length-map (all_kids g t p) (λ n. start + items_before_by is_whole t n) ]

  abbrev from_end : ℕ → ℕ
  from_end n = start + (length (first_nodes_by is_whole t) - 1 - items_before_by is_whole t n)

  pub length-below_up : length (items_below_by bottomup g is_whole t start p)
      ≡ (if is_whole p then 0 else length (all_kids g t p))
  length-below_up =
      elim (is_whole p) as
      (λ b. length {A = ℕ} (if b then [] else reverse (map from_end (all_kids g t p)))
      ≡ (if b then 0 else length (all_kids g t p))) [
        | true ↦ refl
        | false ↦ length-reverse (map from_end (all_kids g t p)) ∙ length-map (all_kids g t p) from_end
      ]

  -- an entry of the items of its kids
  pub below_at : (place : ℕ) → place < length (items_below_by topdown g is_whole t start p)
      → (place < length (all_kids g t p))
      × (get_or (items_below_by topdown g is_whole t start p) place 0
      ≡ start + items_before_by is_whole t (get_or (all_kids g t p) place 0))
  below_at place =
      elim (is_whole p) as
      (λ b. place < length {A = ℕ} (if b then [] else map (λ n. start + items_before_by is_whole t n) (all_kids g t p))
      → (place < length (all_kids g t p))
      × (get_or (if b then [] else map (λ n. start + items_before_by is_whole t n) (all_kids g t p)) place 0
      ≡ start + items_before_by is_whole t (get_or (all_kids g t p) place 0))) [
        | true ↦ λ below. absurd (let z : ⊥ = omega (arith, below) in z)
        | false ↦ λ below.
            let within : place < length (all_kids g t p) =
            omega (arith, below, length-map (all_kids g t p) (λ n. start + items_before_by is_whole t n)) in
            (within, get_or-map (λ n. start + items_before_by is_whole t n) (all_kids g t p) place 0 0 within)
      ]

module _ (g : AttributeGrammar) (t : Forest) (fits : IsTreeOf g t) (p : Path) where
  -- a kid is a node
  pub kid_known : (n : ℕ) → Contains (all_kids g t p) n → n < suc (size (below_of t))
  kid_known n h =
      let kid = in_kids g t fits p n h in
      let low = number_of-lt t (down kid.child kid.kid p) kid.there in
      let is = kid.is in
      omega (arith, low, is)

  distinct_rising : (xs : List ℕ) → Rises xs → AreDistinct xs
  distinct_rising [] r = tt
  distinct_rising (x ∷ xs) r =
      ((λ again. let less = r.0 x again in let z : ⊥ = omega (arith, less) in z), distinct_rising xs r.1)

  -- and there are no more than nodes
  pub few_kids : Has t p → length (all_kids g t p) ≤ suc (size (below_of t))
  few_kids has =
      fewer (suc (size (below_of t))) (all_kids g t p)
      (distinct_rising (all_kids g t p) (kids_rise g t fits p has)) kid_known
