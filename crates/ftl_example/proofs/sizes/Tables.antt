-- The tables have the sizes of the rounds.
use Rattle.std.proofs.Common.{◌≡◌, ℕ, zero, suc, ◌+◌, ◌<◌, ◌≤◌, ◌==◌, true, false, if◌then◌else◌, refl, ◌∙◌, ap, ap₂, arith, Option, None, Some}
use Rattle.std.specs.Prelude.{replicate}
use Rattle.std.proofs.lemmas.List.FromFn.{get_or-map-range_with_len}
use Rattle.ftl_model.specs.layout.AttributeGrammar.{AttributeGrammar}
use Rattle.ftl_order.specs.orders.Lawful.{IsLawful}
use Rattle.ftl_example.specs.sizes.Least.{best_up_to, capped, least_up_to, lesser, plus, singles_up_to}
use Rattle.ftl_example.specs.sizes.SizeTable.{TablesAreSizes, by_table, table_after}

none_at : (n i : ℕ) → by_table (replicate n None) i ≡ None
none_at zero i = refl
none_at (suc n) zero = refl
none_at (suc n) (suc i) = none_at n i

module _ (g : AttributeGrammar) (most : ℕ) (law : IsLawful g) (f h : ℕ → Option ℕ)
    (same : (i : ℕ) → i < g.interface_count → f i ≡ h i) where
  singles_same : (class n : ℕ) → class < g.class_count → n ≤ g.child_count class
      → singles_up_to most g f class n ≡ singles_up_to most g h class n
  singles_same class zero known le = refl
  singles_same class (suc n) known le =
      let rest = singles_same class n known (omega (arith, le)) in
      elim (g.is_list class n) as (λ t. (if t then singles_up_to most g f class n
      else capped most (plus (f (g.child_interface class n)) (singles_up_to most g f class n)))
      ≡ (if t then singles_up_to most g h class n
      else capped most (plus (h (g.child_interface class n)) (singles_up_to most g h class n)))) [
        | true ↦ rest
        | false ↦
            ap₂ (λ x y. capped most (plus x y))
            (same (g.child_interface class n) (law.children_known class n known (omega (arith, le)))) rest
      ]

  best_same : (i n : ℕ) → n ≤ g.class_count → best_up_to most g f i n ≡ best_up_to most g h i n
  best_same i zero le = refl
  best_same i (suc n) le =
      let rest = best_same i n (omega (arith, le)) in
      elim (g.interface n == i) as (λ t. (if t then lesser (best_up_to most g f i n)
      (capped most (plus (Some 1) (singles_up_to most g f n (g.child_count n)))) else best_up_to most g f i n)
      ≡ (if t then lesser (best_up_to most g h i n)
      (capped most (plus (Some 1) (singles_up_to most g h n (g.child_count n)))) else best_up_to most g h i n)) [
        | true ↦
            ap₂ lesser rest
            (ap (λ y. capped most (plus (Some 1) y)) (singles_same n (g.child_count n) (omega (arith, le)) (omega arith)))
        | false ↦ rest
      ]

pub tables_are_sizes : TablesAreSizes
tables_are_sizes g most zero i law below = none_at g.interface_count i
tables_are_sizes g most (suc k) i law below =
    get_or-map-range_with_len (λ i. best_up_to most g (by_table (table_after g most k)) i g.class_count) 0 g.interface_count i i
    None below (let z : 0 + i ≡ i = omega arith in z)
    ∙ best_same g most law (by_table (table_after g most k)) (least_up_to most g k)
    (λ j low. tables_are_sizes g most k j law low) i g.class_count (omega arith)
