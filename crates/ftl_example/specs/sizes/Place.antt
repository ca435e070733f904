-- The place of a pair: the node at which the reader runs, with the kids that it reads; or the parent, where the writer
-- runs there.
use Rattle.std.specs.Prelude.{◌≡◌, ℕ, ◌==◌, ◌&&◌, ◌||◌, if◌then◌else◌, Bool, true, false, Option, List, [], ◌∷◌}
use Rattle.ftl_model.specs.layout.Tree.{Forest}
use Rattle.ftl_model.specs.layout.AttributeGrammar.{AttributeGrammar, Part, Parts, Read, RuleName, each_read, first_part, first_then}
use Rattle.ftl_model.specs.layout.AttributeGrammar.{fold_over, for_child, for_self, from_part, last_read, plain, plain_part}
use Rattle.ftl_model.specs.layout.AttributeGrammar.{prev_read, self_read, single_read, then_part, this_read, with_part}
use Rattle.ftl_model.specs.layout.Solves.{rule_named}
use Rattle.ftl_order.specs.orders.Lawful.{class_of_rule}
use Rattle.ftl_order.specs.orders.Pairs.{Pair, Where, child_class, parent_class, same_class}
use Rattle.ftl_example.specs.sizes.Least.{least}
use Rattle.ftl_example.specs.sizes.Reach.{reach}
use Rattle.ftl_example.specs.sizes.Wants.{HasJust, HasKids, wanted_size}

-- a kid of any class, or of this one
pub data Kid : Type 0 where
  any : Kid
  of_class : (class : ℕ) → Kid

-- a node of any class, with a tree in each single child
abbrev pub IsKid : Kid → ℕ → Forest → Type 0
IsKid any class below = Unit {0}
IsKid (of_class k) class below = class ≡ k

-- what a node has at least: a tree in each child that is no list
abbrev pub singles_alone : {W : Type 0} → AttributeGrammar → W → (class c : ℕ) → List W
singles_alone g x class c = if g.is_list class c then [] else x ∷ []

abbrev pub kid_sizes : AttributeGrammar → (ℕ → Option ℕ) → Kid → ℕ → Option ℕ
kid_sizes g size any i = size i
kid_sizes g size (of_class k) i = wanted_size g (λ (x : Kid). size) (singles_alone g any k) k i

-- the rule is for the kids in child c
abbrev pub is_for : RuleName → ℕ → Bool
is_for (for_self k a) c = false
is_for (for_child k d a) c = d == c

abbrev pub is_then : Part → Bool
is_then plain_part = false
is_then first_part = false
is_then then_part = true
is_then from_part = false
is_then with_part = false

-- the part runs for the kids in child c
abbrev pub goes_over : Parts → Part → ℕ → Bool
goes_over (plain reads) part c = false
goes_over (first_then first later) part c = false
goes_over (fold_over d start step) with_part c = d == c
goes_over (fold_over d start step) plain_part c = false
goes_over (fold_over d start step) first_part c = false
goes_over (fold_over d start step) then_part c = false
goes_over (fold_over d start step) from_part c = false

-- the read is of a kid in child c
abbrev pub reads_child : Read → ℕ → Bool
reads_child (self_read a) c = false
reads_child (single_read d a) c = d == c
reads_child (each_read d a) c = d == c
reads_child (this_read d a) c = d == c
reads_child (prev_read d a) c = d == c
reads_child (last_read d a) c = d == c

-- the kid that is read: of the writer's class where the writer runs there
abbrev pub read_kid : Where → RuleName → Kid
read_kid same_class w = any
read_kid parent_class w = any
read_kid child_class w = of_class (class_of_rule w)

-- the kids of a later kid and the one before it
abbrev pub two_kids : Read → Kid → List Kid
two_kids (self_read a) x = any ∷ any ∷ []
two_kids (single_read d a) x = any ∷ any ∷ []
two_kids (each_read d a) x = any ∷ any ∷ []
two_kids (this_read d a) x = any ∷ x ∷ []
two_kids (prev_read d a) x = x ∷ any ∷ []
two_kids (last_read d a) x = any ∷ any ∷ []

-- the kids in child c that the reader's node has
abbrev pub reader_kids : AttributeGrammar → Pair → (c : ℕ) → List Kid
reader_kids g pair c =
    if is_for pair.reader c && is_then pair.part then two_kids pair.read (read_kid pair.runs_at pair.writer)
    else (if reads_child pair.read c then read_kid pair.runs_at pair.writer ∷ []
    else (if is_for pair.reader c || goes_over (rule_named g pair.reader).parts pair.part c then any ∷ []
    else singles_alone g any (class_of_rule pair.reader) c))

-- the reader's node, with such kids, or just these
abbrev pub IsReaderPlace : AttributeGrammar → Pair → ℕ → Forest → Type 0
IsReaderPlace g pair = HasKids g IsKid (reader_kids g pair) (class_of_rule pair.reader)

abbrev pub IsReaderJust : AttributeGrammar → Pair → ℕ → Forest → Type 0
IsReaderJust g pair = HasJust g IsKid (reader_kids g pair) (class_of_rule pair.reader)

abbrev pub reader_size : AttributeGrammar → (ℕ → Option ℕ) → Pair → ℕ → Option ℕ
reader_size g size pair = wanted_size g (kid_sizes g size) (reader_kids g pair) (class_of_rule pair.reader)

-- where the writer runs at the parent: its node has the reader's in the child that the writer is for
abbrev pub IsReaderOr : (ℕ → Forest → Type 0) → Bool → ℕ → Forest → Type 0
IsReaderOr Reader true class below = Reader class below
IsReaderOr Reader false class below = Unit {0}

abbrev pub reader_or_size : (reader size : ℕ → Option ℕ) → Bool → ℕ → Option ℕ
reader_or_size reader size true i = reader i
reader_or_size reader size false i = size i

abbrev pub writer_kids : AttributeGrammar → RuleName → (c : ℕ) → List Bool
writer_kids g w c = if is_for w c then true ∷ [] else singles_alone g false (class_of_rule w) c

abbrev pub IsPlaceAt : AttributeGrammar → Where → Pair → ℕ → Forest → Type 0
IsPlaceAt g same_class pair = IsReaderPlace g pair
IsPlaceAt g child_class pair = IsReaderPlace g pair
IsPlaceAt g parent_class pair =
    HasKids g (IsReaderOr (IsReaderPlace g pair)) (writer_kids g pair.writer) (class_of_rule pair.writer)

abbrev pub IsJustPlaceAt : AttributeGrammar → Where → Pair → ℕ → Forest → Type 0
IsJustPlaceAt g same_class pair = IsReaderJust g pair
IsJustPlaceAt g child_class pair = IsReaderJust g pair
IsJustPlaceAt g parent_class pair =
    HasJust g (IsReaderOr (IsReaderJust g pair)) (writer_kids g pair.writer) (class_of_rule pair.writer)

abbrev pub place_size_at : AttributeGrammar → (ℕ → Option ℕ) → Where → Pair → ℕ → Option ℕ
place_size_at g size same_class pair = reader_size g size pair
place_size_at g size child_class pair = reader_size g size pair
place_size_at g size parent_class pair =
    wanted_size g (reader_or_size (reader_size g size pair) size) (writer_kids g pair.writer) (class_of_rule pair.writer)

-- the least size of a tree of the grammar that shows the pair, by as many rounds as there are interfaces
abbrev pub example_size : AttributeGrammar → Pair → Option ℕ
example_size g pair =
    reach g (least g g.interface_count) (place_size_at g (least g g.interface_count) pair.runs_at pair) g.interface_count
    g.root
