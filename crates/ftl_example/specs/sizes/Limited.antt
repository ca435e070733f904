-- The same sizes, counted up to a number: each sum is cut at it. This is what code computes.
use Rattle.std.specs.Prelude.{◌≡◌, ℕ, zero, suc, ◌==◌, if◌then◌else◌, Option, None, Some, List, [], ◌∷◌}
use Rattle.ftl_model.specs.layout.AttributeGrammar.{AttributeGrammar}
use Rattle.ftl_order.specs.orders.Lawful.{class_of_rule}
use Rattle.ftl_order.specs.orders.Pairs.{Pair, Where, child_class, parent_class, same_class}
use Rattle.ftl_example.specs.sizes.Least.{capped, least_up_to, lesser, plus}
use Rattle.ftl_example.specs.sizes.Place.{Kid, any, of_class, reader_kids, reader_or_size, singles_alone, writer_kids}
use Rattle.ftl_example.specs.sizes.Place.{example_size}

-- a sum, counted up to a number
abbrev pub add : (most : ℕ) → Option ℕ → Option ℕ → Option ℕ
add most x y = capped most (plus x y)

abbrev pub others_up_to : ℕ → AttributeGrammar → (ℕ → Option ℕ) → (class d n : ℕ) → Option ℕ
others_up_to most g size class d zero = capped most (Some 0)
others_up_to most g size class d (suc n) =
    if n == d then others_up_to most g size class d n
    else (if g.is_list class n then others_up_to most g size class d n
    else add most (size (g.child_interface class n)) (others_up_to most g size class d n))

abbrev pub way_size_up_to : ℕ → AttributeGrammar → (size next : ℕ → Option ℕ) → (class d : ℕ) → Option ℕ
way_size_up_to most g size next class d =
    add most (Some 1)
    (add most (next (g.child_interface class d)) (others_up_to most g size class d (g.child_count class)))

abbrev pub ways_up_to : ℕ → AttributeGrammar → (size next : ℕ → Option ℕ) → (class n : ℕ) → Option ℕ
ways_up_to most g size next class zero = None
ways_up_to most g size next class (suc n) =
    lesser (ways_up_to most g size next class n) (way_size_up_to most g size next class n)

abbrev pub best_way_up_to : ℕ → AttributeGrammar → (size next : ℕ → Option ℕ) → (i n : ℕ) → Option ℕ
best_way_up_to most g size next i zero = None
best_way_up_to most g size next i (suc n) =
    if g.interface n == i then lesser (best_way_up_to most g size next i n) (ways_up_to most g size next n (g.child_count n))
    else best_way_up_to most g size next i n

abbrev pub reach_up_to : ℕ → AttributeGrammar → (size start : ℕ → Option ℕ) → ℕ → ℕ → Option ℕ
reach_up_to most g size start zero i = start i
reach_up_to most g size start (suc k) i =
    lesser (start i) (best_way_up_to most g size (reach_up_to most g size start k) i g.class_count)

-- ---- nodes with kids

abbrev pub kids_size_up_to : {W : Type 0} → ℕ → (W → ℕ → Option ℕ) → (interface : ℕ) → List W → Option ℕ
kids_size_up_to most size i [] = capped most (Some 0)
kids_size_up_to most size i (x ∷ xs) = add most (size x i) (kids_size_up_to most size i xs)

abbrev pub below_size_up_to : {W : Type 0} → ℕ → AttributeGrammar → (W → ℕ → Option ℕ) → (ℕ → List W) → (class n : ℕ)
    → Option ℕ
below_size_up_to most g size wants class zero = capped most (Some 0)
below_size_up_to most g size wants class (suc n) =
    add most (kids_size_up_to most size (g.child_interface class n) (wants n)) (below_size_up_to most g size wants class n)

abbrev pub wanted_size_up_to : {W : Type 0} → ℕ → AttributeGrammar → (W → ℕ → Option ℕ) → (ℕ → List W) → (class i : ℕ)
    → Option ℕ
wanted_size_up_to most g size wants class i =
    if g.interface class == i then add most (Some 1) (below_size_up_to most g size wants class (g.child_count class)) else None

-- ---- the pair

abbrev pub kid_sizes_up_to : ℕ → AttributeGrammar → (ℕ → Option ℕ) → Kid → ℕ → Option ℕ
kid_sizes_up_to most g size any i = size i
kid_sizes_up_to most g size (of_class k) i = wanted_size_up_to most g (λ (x : Kid). size) (singles_alone g any k) k i

abbrev pub reader_size_up_to : ℕ → AttributeGrammar → (ℕ → Option ℕ) → Pair → ℕ → Option ℕ
reader_size_up_to most g size pair =
    wanted_size_up_to most g (kid_sizes_up_to most g size) (reader_kids g pair) (class_of_rule pair.reader)

abbrev pub place_size_up_to : ℕ → AttributeGrammar → (ℕ → Option ℕ) → Where → Pair → ℕ → Option ℕ
place_size_up_to most g size same_class pair = reader_size_up_to most g size pair
place_size_up_to most g size child_class pair = reader_size_up_to most g size pair
place_size_up_to most g size parent_class pair =
    wanted_size_up_to most g (reader_or_size (reader_size_up_to most g size pair) size) (writer_kids g pair.writer)
    (class_of_rule pair.writer)

abbrev pub example_size_up_to : (most : ℕ) → AttributeGrammar → Pair → Option ℕ
example_size_up_to most g pair =
    reach_up_to most g (least_up_to most g g.interface_count)
    (place_size_up_to most g (least_up_to most g g.interface_count) pair.runs_at pair) g.interface_count g.root

abbrev pub ExamplesUpTo : Type 0
ExamplesUpTo =
    (most : ℕ) (g : AttributeGrammar) (pair : Pair) → example_size_up_to most g pair ≡ capped most (example_size g pair)
