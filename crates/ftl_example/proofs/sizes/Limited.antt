-- The sizes of examples may be counted up to a number.
use Rattle.std.proofs.Common.{◌≡◌, ℕ, zero, suc, ◌==◌, Bool, true, false, if◌then◌else◌, refl, ◌∙◌, ap, ap₂, List, [], ◌∷◌, Option, None, Some}
use Rattle.ftl_model.specs.layout.AttributeGrammar.{AttributeGrammar}
use Rattle.ftl_order.specs.orders.Lawful.{class_of_rule}
use Rattle.ftl_order.specs.orders.Pairs.{Pair, Where, child_class, parent_class, same_class}
use Rattle.ftl_example.specs.sizes.Least.{capped, least, least_up_to, lesser, plus}
use Rattle.ftl_example.specs.sizes.Limited.{ExamplesUpTo, add, below_size_up_to, best_way_up_to, kid_sizes_up_to, kids_size_up_to, others_up_to, place_size_up_to, reach_up_to, reader_size_up_to, wanted_size_up_to, way_size_up_to, ways_up_to}
use Rattle.ftl_example.specs.sizes.Place.{Kid, any, kid_sizes, of_class, place_size_at, reader_kids, reader_or_size, reader_size, singles_alone, writer_kids}
use Rattle.ftl_example.specs.sizes.Reach.{best_way, others, reach, way_size, ways}
use Rattle.ftl_example.specs.sizes.Wants.{below_size, kids_size, wanted_size}
use Rattle.ftl_example.proofs.sizes.Capped.{counted_up_to, lesser_capped, one_capped, plus_capped}

module _ (most : ℕ) where
  -- the one is the other, cut
  abbrev pub Cut : (ℕ → Option ℕ) → (ℕ → Option ℕ) → Type 0
  Cut f h = (i : ℕ) → f i ≡ capped most (h i)

  pub add_cut : (x y u v : Option ℕ) → u ≡ capped most x → v ≡ capped most y → add most u v ≡ capped most (plus x y)
  add_cut x y u v e f = ap₂ (λ a b. capped most (plus a b)) e f ∙ plus_capped most x y

  pub one_cut : (y v : Option ℕ) → v ≡ capped most y → add most (Some 1) v ≡ capped most (plus (Some 1) y)
  one_cut y v f = ap (λ b. capped most (plus (Some 1) b)) f ∙ one_capped most y

  module _ (g : AttributeGrammar) where
    module _ (size' size : ℕ → Option ℕ) (sizes : Cut size' size) where
      others_cut : (class d n : ℕ) → others_up_to most g size' class d n ≡ capped most (others g size class d n)
      others_cut class d zero = refl
      others_cut class d (suc n) =
          let rest = others_cut class d n in
          elim (n == d) as (λ t. (if t then others_up_to most g size' class d n
          else (if g.is_list class n then others_up_to most g size' class d n
          else add most (size' (g.child_interface class n)) (others_up_to most g size' class d n)))
          ≡ capped most (if t then others g size class d n
          else (if g.is_list class n then others g size class d n
          else plus (size (g.child_interface class n)) (others g size class d n)))) [
            | true ↦ rest
            | false ↦
                elim (g.is_list class n) as (λ t. (if t then others_up_to most g size' class d n
                else add most (size' (g.child_interface class n)) (others_up_to most g size' class d n))
                ≡ capped most (if t then others g size class d n
                else plus (size (g.child_interface class n)) (others g size class d n))) [
                  | true ↦ rest
                  | false ↦
                      add_cut (size (g.child_interface class n)) (others g size class d n)
                      (size' (g.child_interface class n)) (others_up_to most g size' class d n)
                      (sizes (g.child_interface class n)) rest
                ]
          ]

      module _ (next' next : ℕ → Option ℕ) (nexts : Cut next' next) where
        pub way_cut : (class d : ℕ) → way_size_up_to most g size' next' class d ≡ capped most (way_size g size next class d)
        way_cut class d =
            one_cut (plus (next (g.child_interface class d)) (others g size class d (g.child_count class)))
            (add most (next' (g.child_interface class d)) (others_up_to most g size' class d (g.child_count class)))
            (add_cut (next (g.child_interface class d)) (others g size class d (g.child_count class))
            (next' (g.child_interface class d)) (others_up_to most g size' class d (g.child_count class))
            (nexts (g.child_interface class d)) (others_cut class d (g.child_count class)))

        pub ways_cut : (class n : ℕ) → ways_up_to most g size' next' class n ≡ capped most (ways g size next class n)
        ways_cut class zero = refl
        ways_cut class (suc n) =
            ap₂ lesser (ways_cut class n) (way_cut class n)
            ∙ lesser_capped most (ways g size next class n) (way_size g size next class n)

        pub best_cut : (i n : ℕ) → best_way_up_to most g size' next' i n ≡ capped most (best_way g size next i n)
        best_cut i zero = refl
        best_cut i (suc n) =
            let rest = best_cut i n in
            elim (g.interface n == i) as (λ t.
            (if t then lesser (best_way_up_to most g size' next' i n) (ways_up_to most g size' next' n (g.child_count n))
            else best_way_up_to most g size' next' i n)
            ≡ capped most (if t then lesser (best_way g size next i n) (ways g size next n (g.child_count n))
            else best_way g size next i n)) [
              | true ↦
                  ap₂ lesser rest (ways_cut n (g.child_count n))
                  ∙ lesser_capped most (best_way g size next i n) (ways g size next n (g.child_count n))
              | false ↦ rest
            ]

      pub reach_cut : (start' start : ℕ → Option ℕ) → Cut start' start → (k : ℕ)
          → Cut (reach_up_to most g size' start' k) (reach g size start k)
      reach_cut start' start starts zero i = starts i
      reach_cut start' start starts (suc k) i =
          ap₂ lesser (starts i)
          (best_cut (reach_up_to most g size' start' k) (reach g size start k) (reach_cut start' start starts k) i g.class_count)
          ∙ lesser_capped most (start i) (best_way g size (reach g size start k) i g.class_count)

    module _ {W : Type 0} (size' size : W → ℕ → Option ℕ) (sizes : (x : W) → Cut (size' x) (size x)) where
      kids_cut : (i : ℕ) (xs : List W) → kids_size_up_to most size' i xs ≡ capped most (kids_size size i xs)
      kids_cut i [] = refl
      kids_cut i (x ∷ xs) =
          add_cut (size x i) (kids_size size i xs) (size' x i) (kids_size_up_to most size' i xs) (sizes x i) (kids_cut i xs)

      below_cut : (wants : ℕ → List W) (class n : ℕ)
          → below_size_up_to most g size' wants class n ≡ capped most (below_size g size wants class n)
      below_cut wants class zero = refl
      below_cut wants class (suc n) =
          add_cut (kids_size size (g.child_interface class n) (wants n)) (below_size g size wants class n)
          (kids_size_up_to most size' (g.child_interface class n) (wants n)) (below_size_up_to most g size' wants class n)
          (kids_cut (g.child_interface class n) (wants n)) (below_cut wants class n)

      wanted_cut : (wants : ℕ → List W) (class : ℕ)
          → Cut (wanted_size_up_to most g size' wants class) (wanted_size g size wants class)
      wanted_cut wants class i =
          elim (g.interface class == i) as (λ t.
          (if t then add most (Some 1) (below_size_up_to most g size' wants class (g.child_count class)) else None)
          ≡ capped most (if t then plus (Some 1) (below_size g size wants class (g.child_count class)) else None)) [
            | true ↦
                one_cut (below_size g size wants class (g.child_count class))
                (below_size_up_to most g size' wants class (g.child_count class)) (below_cut wants class (g.child_count class))
            | false ↦ refl
          ]

    module _ (pair : Pair) (all' all : ℕ → Option ℕ) (alls : Cut all' all) where
      kid_cut : (x : Kid) → Cut (kid_sizes_up_to most g all' x) (kid_sizes g all x)
      kid_cut any i = alls i
      kid_cut (of_class k) i = wanted_cut (λ (x : Kid). all') (λ (x : Kid). all) (λ x. alls) (singles_alone g any k) k i

      reader_cut : Cut (reader_size_up_to most g all' pair) (reader_size g all pair)
      reader_cut =
          wanted_cut (kid_sizes_up_to most g all') (kid_sizes g all) kid_cut (reader_kids g pair)
          (class_of_rule pair.reader)

      or_cut : (x : Bool) → Cut (reader_or_size (reader_size_up_to most g all' pair) all' x)
          (reader_or_size (reader_size g all pair) all x)
      or_cut true i = reader_cut i
      or_cut false i = alls i

      pub place_cut : (at_it : Where) → Cut (place_size_up_to most g all' at_it pair) (place_size_at g all at_it pair)
      place_cut same_class i = reader_cut i
      place_cut child_class i = reader_cut i
      place_cut parent_class i =
          wanted_cut (reader_or_size (reader_size_up_to most g all' pair) all') (reader_or_size (reader_size g all pair) all)
          or_cut (writer_kids g pair.writer) (class_of_rule pair.writer) i

pub examples_up_to : ExamplesUpTo
examples_up_to most g pair =
    let all' = least_up_to most g g.interface_count in
    let all = least g g.interface_count in
    let alls = counted_up_to g most g.interface_count in
    reach_cut most g all' all alls (place_size_up_to most g all' pair.runs_at pair)
    (place_size_at g all pair.runs_at pair) (place_cut most g pair all' all alls pair.runs_at) g.interface_count g.root
