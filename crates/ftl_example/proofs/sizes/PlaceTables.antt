-- The tables have the sizes of the rounds, counted up to a number.
use Rattle.std.proofs.Common.{◌≡◌, ℕ, zero, suc, ◌+◌, ◌<◌, ◌≤◌, ◌==◌, true, false, if◌then◌else◌, refl, sym, ◌∙◌, ap, ap₂, ⊎_elim, arith, List, [], ◌∷◌, length, map, Option, None, Some, eqb-true}
use Rattle.std.specs.Prelude.{replicate}
use Rattle.std.specs.List.{range_with_len}
use Rattle.std.proofs.lemmas.Bool.{cases_lt}
use Rattle.std.proofs.lemmas.List.FromFn.{get_or-map-range_with_len}
use Rattle.ftl_model.specs.layout.AttributeGrammar.{AttributeGrammar}
use Rattle.ftl_order.specs.orders.Lawful.{IsLawful}
use Rattle.ftl_order.specs.orders.Pairs.{IsPair, Pair}
use Rattle.ftl_example.specs.sizes.Least.{best, best_up_to, capped, class_size, least, lesser}
use Rattle.ftl_example.specs.sizes.Limited.{best_way_up_to, place_size_up_to}
use Rattle.ftl_example.specs.sizes.Place.{place_size_at}
use Rattle.ftl_example.specs.sizes.PlaceTable.{start_table, ways_after}
use Rattle.ftl_example.specs.sizes.Reach.{best_way, reach, ways}
use Rattle.ftl_example.specs.sizes.SizeTable.{by_table, table_after}
use Rattle.ftl_example.proofs.sizes.Capped.{counted_up_to, lesser_capped}
use Rattle.ftl_example.proofs.sizes.Limited.{Cut, best_cut, place_cut}
use Rattle.ftl_example.proofs.sizes.Tables.{tables_are_sizes}
use Rattle.ftl_example.proofs.trees.ExampleTree.{place_outright}

past_all : (n i : ℕ) → by_table (replicate n None) i ≡ None
past_all zero i = refl
past_all (suc n) zero = refl
past_all (suc n) (suc i) = past_all n i

past_end : (xs : List (Option ℕ)) (i : ℕ) → length xs ≤ i → by_table xs i ≡ None
past_end [] i le = refl
past_end (x ∷ xs) zero le = absurd (omega (arith, le))
past_end (x ∷ xs) (suc i) le = past_end xs i (omega (arith, le))

-- past the end of a list of so many
past_map : (f : ℕ → Option ℕ) (a n i : ℕ) → n ≤ i → by_table (map f (range_with_len a n)) i ≡ None
past_map f a zero i le = refl
past_map f a (suc n) zero le = absurd (omega (arith, le))
past_map f a (suc n) (suc i) le = past_map f (a + 1) n i (omega (arith, le))

module _ (g : AttributeGrammar) (law : IsLawful g) (most : ℕ) where
  abbrev count : ℕ
  count = g.interface_count

  -- a class is of one of the interfaces
  other_interface : (n i : ℕ) → n < g.class_count → g.interface_count ≤ i → g.interface n == i ≡ false
  other_interface n i known past =
      elim (g.interface n == i) as (λ t. (g.interface n == i ≡ t) → t ≡ false) [
        | true ↦ λ e.
            absurd
            (let l = law.interfaces_known n known in
            let s = eqb-true (g.interface n) i e in
            omega (arith, l, s, past))
        | false ↦ λ e. refl
      ] refl

  best_past : (size : ℕ → Option ℕ) (i n : ℕ) → n ≤ g.class_count → g.interface_count ≤ i → best g size i n ≡ None
  best_past size i zero le past = refl
  best_past size i (suc n) le past =
      ap (λ t. if t then lesser (best g size i n) (class_size g size n) else best g size i n)
      (other_interface n i (omega (arith, le)) past)
      ∙ best_past size i n (omega (arith, le)) past

  way_past : (size next : ℕ → Option ℕ) (i n : ℕ) → n ≤ g.class_count → g.interface_count ≤ i
      → best_way g size next i n ≡ None
  way_past size next i zero le past = refl
  way_past size next i (suc n) le past =
      ap (λ t. if t then lesser (best_way g size next i n) (ways g size next n (g.child_count n)) else best_way g size next i n)
      (other_interface n i (omega (arith, le)) past)
      ∙ way_past size next i n (omega (arith, le)) past

  least_past : (k i : ℕ) → g.interface_count ≤ i → least g k i ≡ None
  least_past zero i past = refl
  least_past (suc k) i past = best_past (least g k) i g.class_count (omega arith) past

  table_past : (k i : ℕ) → g.interface_count ≤ i → by_table (table_after g most k) i ≡ None
  table_past zero i past = past_all g.interface_count i
  table_past (suc k) i past =
      past_map (λ i. best_up_to most g (by_table (table_after g most k)) i g.class_count) 0 g.interface_count i past

  pub table_cut : (k : ℕ) → Cut most (by_table (table_after g most k)) (least g k)
  table_cut k i =
      ⊎_elim (λ low. tables_are_sizes g most k i law low ∙ counted_up_to g most k i)
      (λ past. table_past k i past ∙ sym (ap (capped most) (least_past k i past))) (cases_lt i g.interface_count)

  module _ (pair : Pair) (is : IsPair g pair) where
    abbrev all : ℕ → Option ℕ
    all = least g g.interface_count

    abbrev start : ℕ → Option ℕ
    start = place_size_at g (least g g.interface_count) pair.runs_at pair

    abbrev sizes : List (Option ℕ)
    sizes = table_after g most g.interface_count

    abbrev starts : List (Option ℕ)
    starts = start_table g most pair (table_after g most g.interface_count)

    start_past : (i : ℕ) → g.interface_count ≤ i → start i ≡ None
    start_past i past = go (start i) refl
      where
        go : (o : Option ℕ) → start i ≡ o → o ≡ None
        go None e = refl
        go (Some n) e =
            let p = place_outright g law pair is pair.runs_at is.1 i n e in
            absurd
            (let s = p.interface in
            let l = law.interfaces_known _ p.known in
            omega (arith, s, l, past))

    pub start_cut : Cut most (by_table starts) start
    start_cut i =
        ⊎_elim
        (λ low.
        get_or-map-range_with_len (λ i. place_size_up_to most g (by_table sizes) pair.runs_at pair i) 0 g.interface_count i i
        None low (let z : 0 + i ≡ i = omega arith in z)
        ∙ place_cut most g pair (by_table sizes) all (table_cut g.interface_count) pair.runs_at i)
        (λ past.
        past_map (λ i. place_size_up_to most g (by_table sizes) pair.runs_at pair i) 0 g.interface_count i past
        ∙ sym (ap (capped most) (start_past i past))) (cases_lt i g.interface_count)

    pub way_table_cut : (k : ℕ) → Cut most (by_table (ways_after g most sizes starts k)) (reach g all start k)
    way_table_cut zero i = start_cut i
    way_table_cut (suc k) i =
        let before = ways_after g most sizes starts k in
        let next : ℕ → Option ℕ = λ i. lesser (by_table starts i) (best_way_up_to most g (by_table sizes) (by_table before) i g.class_count) in
        ⊎_elim
        (λ low.
        get_or-map-range_with_len next 0 g.interface_count i i None low (let z : 0 + i ≡ i = omega arith in z)
        ∙ ap₂ lesser (start_cut i)
        (best_cut most g (by_table sizes) all (table_cut g.interface_count) (by_table before) (reach g all start k)
        (way_table_cut k) i g.class_count)
        ∙ lesser_capped most (start i) (best_way g all (reach g all start k) i g.class_count))
        (λ past.
        past_map next 0 g.interface_count i past
        ∙ sym
        (ap (capped most)
        (ap₂ lesser (start_past i past) (way_past all (reach g all start k) i g.class_count (omega arith) past))))
        (cases_lt i g.interface_count)
