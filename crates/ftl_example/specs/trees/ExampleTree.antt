-- The least tree that shows a pair, as it is built.
use Rattle.std.specs.Prelude.{◌≡◌, ℕ, zero, suc, ◌==◌, ◌&&◌, Bool, true, false, if◌then◌else◌, List, [], ◌∷◌, map, Option, Some}
use Rattle.ftl_model.specs.layout.AttributeGrammar.{AttributeGrammar}
use Rattle.ftl_model.specs.layout.Solves.{Instance}
use Rattle.ftl_model.specs.layout.Tree.{none, size, tree}
use Rattle.ftl_model.specs.layout.TreeOf.{IsTreeOf}
use Rattle.ftl_order.specs.orders.Lawful.{IsLawful, class_of_rule}
use Rattle.ftl_order.specs.orders.Pairs.{IsPair, Pair, Where, child_class, parent_class, same_class}
use Rattle.ftl_example.specs.shows.Bare.{IsBare, bare_inputs}
use Rattle.ftl_example.specs.sizes.Least.{least}
use Rattle.ftl_example.specs.sizes.Place.{Kid, any, example_size, of_class, place_size_at, reader_kids}
use Rattle.ftl_example.specs.sizes.Place.{singles_alone, writer_kids}
use Rattle.ftl_example.specs.sizes.Reach.{reach, way_size, ways}
use Rattle.ftl_example.specs.shows.Shows.{Shows}
use Rattle.ftl_example.specs.trees.Grown.{Choices, grown, is_size, least_class}

-- a least tree; one of a class; the reader's node with its kids; the place; and a way to the place
pub data Want : Type 0 where
  any_tree : Want
  class_tree : (class : ℕ) → Want
  reader_tree : Want
  place_tree : Want
  way_tree : Want

abbrev pub want_of : Kid → Want
want_of any = any_tree
want_of (of_class k) = class_tree k

abbrev pub want_or : Bool → Want
want_or true = reader_tree
want_or false = any_tree

abbrev pub place_class : Where → Pair → ℕ
place_class same_class pair = class_of_rule pair.reader
place_class child_class pair = class_of_rule pair.reader
place_class parent_class pair = class_of_rule pair.writer

abbrev pub place_kids : AttributeGrammar → Where → Pair → (c : ℕ) → List Want
place_kids g same_class pair c = map want_of (reader_kids g pair c)
place_kids g child_class pair c = map want_of (reader_kids g pair c)
place_kids g parent_class pair c = map want_or (writer_kids g pair.writer c)

-- by tables: the least sizes, the sizes of the place, and those with a way to it
abbrev pub way_class : AttributeGrammar → (all way : ℕ → Option ℕ) → (i n : ℕ) → ℕ
way_class g all way i zero = 0
way_class g all way i (suc n) =
    if (g.interface n == i) && is_size (ways g all way n (g.child_count n)) (way i) then n else way_class g all way i n

abbrev pub way_child : AttributeGrammar → (all way : ℕ → Option ℕ) → (class i n : ℕ) → ℕ
way_child g all way k i zero = 0
way_child g all way k i (suc n) = if is_size (way_size g all way k n) (way i) then n else way_child g all way k i n

abbrev pub on_way : AttributeGrammar → (k d c : ℕ) → List Want
on_way g k d c = if c == d then way_tree ∷ [] else singles_alone g any_tree k c

abbrev pub class_wanted : AttributeGrammar → Pair → (all start way : ℕ → Option ℕ) → Want → ℕ → ℕ
class_wanted g pair all start way any_tree i = least_class g all i g.class_count
class_wanted g pair all start way (class_tree k) i = k
class_wanted g pair all start way reader_tree i = class_of_rule pair.reader
class_wanted g pair all start way place_tree i = place_class pair.runs_at pair
class_wanted g pair all start way way_tree i =
    if is_size (start i) (way i) then place_class pair.runs_at pair else way_class g all way i g.class_count

abbrev pub kids_wanted : AttributeGrammar → Pair → (all start way : ℕ → Option ℕ) → Want → ℕ → ℕ → List Want
kids_wanted g pair all start way any_tree i c = singles_alone g any_tree (least_class g all i g.class_count) c
kids_wanted g pair all start way (class_tree k) i c = singles_alone g any_tree k c
kids_wanted g pair all start way reader_tree i c = map want_of (reader_kids g pair c)
kids_wanted g pair all start way place_tree i c = place_kids g pair.runs_at pair c
kids_wanted g pair all start way way_tree i c =
    if is_size (start i) (way i) then place_kids g pair.runs_at pair c
    else on_way g (way_class g all way i g.class_count)
    (way_child g all way (way_class g all way i g.class_count) i (g.child_count (way_class g all way i g.class_count))) c

abbrev pub choices_by : AttributeGrammar → Pair → (all start way : ℕ → Option ℕ) → Choices Want
choices_by g pair all start way =
    record { class_for = class_wanted g pair all start way; kids_for = kids_wanted g pair all start way }

-- by the last tables
abbrev pub example_choices : AttributeGrammar → Pair → Choices Want
example_choices g pair =
    let all = least g g.interface_count in
    let start = place_size_at g all pair.runs_at pair in
    choices_by g pair all start (reach g all start g.interface_count)

-- the tree that is built so is a least one that shows the pair
abbrev pub GrowsExamples : Type 0
GrowsExamples =
    (g : AttributeGrammar) (pair : Pair) (n : ℕ) → IsLawful g → IsPair g pair → example_size g pair ≡ Some n
    → let node = grown g (example_choices g pair) n way_tree g.root in
    let t = tree node.0 0 (bare_inputs g node.0) node.1 none in
    IsTreeOf g t × IsBare g t × ((r w : Instance) × Shows g t pair r w) × (size t ≡ n)
