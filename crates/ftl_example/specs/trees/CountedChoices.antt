-- The choices for a least tree that shows a pair, by sizes that are counted up to a number.
use Rattle.std.specs.Prelude.{ℕ, zero, suc, ◌==◌, ◌&&◌, if◌then◌else◌, List, map, Option, Some}
use Rattle.ftl_model.specs.layout.AttributeGrammar.{AttributeGrammar}
use Rattle.ftl_order.specs.orders.Lawful.{class_of_rule}
use Rattle.ftl_order.specs.orders.Pairs.{Pair}
use Rattle.ftl_example.specs.sizes.Least.{capped, plus, singles_up_to}
use Rattle.ftl_example.specs.sizes.Limited.{way_size_up_to, ways_up_to}
use Rattle.ftl_example.specs.sizes.Place.{reader_kids, singles_alone}
use Rattle.ftl_example.specs.trees.ExampleTree.{Want, any_tree, class_tree, on_way, place_class, place_kids, place_tree}
use Rattle.ftl_example.specs.trees.ExampleTree.{reader_tree, want_of, way_tree}
use Rattle.ftl_example.specs.trees.Grown.{Choices, is_size}

-- the size of the least node of a class
abbrev pub class_size_up_to : (most : ℕ) → AttributeGrammar → (sizes : ℕ → Option ℕ) → (class : ℕ) → Option ℕ
class_size_up_to most g sizes k = capped most (plus (Some 1) (singles_up_to most g sizes k (g.child_count k)))

-- the last class before the n-th that is of the interface and has its size
abbrev pub least_class_up_to : (most : ℕ) → AttributeGrammar → (sizes : ℕ → Option ℕ) → (interface n : ℕ) → ℕ
least_class_up_to most g sizes i zero = 0
least_class_up_to most g sizes i (suc n) =
    if (g.interface n == i) && is_size (class_size_up_to most g sizes n) (sizes i) then n
    else least_class_up_to most g sizes i n

-- the last before the n-th that is of the interface and has a way of its size
abbrev pub way_class_up_to : (most : ℕ) → AttributeGrammar → (all way : ℕ → Option ℕ) → (interface n : ℕ) → ℕ
way_class_up_to most g all way i zero = 0
way_class_up_to most g all way i (suc n) =
    if (g.interface n == i) && is_size (ways_up_to most g all way n (g.child_count n)) (way i) then n
    else way_class_up_to most g all way i n

-- the last child before the n-th through which a way has that size
abbrev pub way_child_up_to : (most : ℕ) → AttributeGrammar → (all way : ℕ → Option ℕ) → (class interface n : ℕ) → ℕ
way_child_up_to most g all way k i zero = 0
way_child_up_to most g all way k i (suc n) =
    if is_size (way_size_up_to most g all way k n) (way i) then n else way_child_up_to most g all way k i n

-- those of an interface
abbrev pub least_of : (most : ℕ) → AttributeGrammar → (all : ℕ → Option ℕ) → (interface : ℕ) → ℕ
least_of most g all i = least_class_up_to most g all i g.class_count

abbrev pub way_of : (most : ℕ) → AttributeGrammar → (all way : ℕ → Option ℕ) → (interface : ℕ) → ℕ
way_of most g all way i = way_class_up_to most g all way i g.class_count

abbrev pub child_of_way : (most : ℕ) → AttributeGrammar → (all way : ℕ → Option ℕ) → (class interface : ℕ) → ℕ
child_of_way most g all way k i = way_child_up_to most g all way k i (g.child_count k)

-- the class for what is wanted
abbrev pub class_up_to : (most : ℕ) → AttributeGrammar → Pair → (all start way : ℕ → Option ℕ) → Want → (interface : ℕ) → ℕ
class_up_to most g pair all start way any_tree i = least_of most g all i
class_up_to most g pair all start way (class_tree k) i = k
class_up_to most g pair all start way reader_tree i = class_of_rule pair.reader
class_up_to most g pair all start way place_tree i = place_class pair.runs_at pair
class_up_to most g pair all start way way_tree i =
    if is_size (start i) (way i) then place_class pair.runs_at pair else way_of most g all way i

-- and the kids in each child
abbrev pub kids_up_to : (most : ℕ) → AttributeGrammar → Pair → (all start way : ℕ → Option ℕ) → Want
    → (interface child : ℕ) → List Want
kids_up_to most g pair all start way any_tree i c = singles_alone g any_tree (least_of most g all i) c
kids_up_to most g pair all start way (class_tree k) i c = singles_alone g any_tree k c
kids_up_to most g pair all start way reader_tree i c = map want_of (reader_kids g pair c)
kids_up_to most g pair all start way place_tree i c = place_kids g pair.runs_at pair c
kids_up_to most g pair all start way way_tree i c =
    if is_size (start i) (way i) then place_kids g pair.runs_at pair c
    else on_way g (way_of most g all way i) (child_of_way most g all way (way_of most g all way i) i) c

-- both
abbrev pub choices_up_to : (most : ℕ) → AttributeGrammar → Pair → (all start way : ℕ → Option ℕ) → Choices Want
choices_up_to most g pair all start way =
    record { class_for = class_up_to most g pair all start way; kids_for = kids_up_to most g pair all start way }
