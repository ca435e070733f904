-- Attribute grammars of trees of boxes (Knuth 1968), with the names gone: interfaces, classes, children and attributes
-- are numbers, and a rule is its reads and its value, as a function of what it can see.
use Rattle.std.specs.Prelude.{ℕ, zero, suc, Bool, true, false, List, [], ◌∷◌, ◌++◌, filter, flat_map, ℤ, pos}
use Rattle.std.specs.Prelude.{slice_index_or}
use Rattle.std.specs.List.{range_with_len}
use Rattle.ftl_model.specs.lists.Lists.{place_in}
use Rattle.ftl_model.specs.layout.Values.{Value, number}

-- what a rule sees from the node whose class has it: an attribute of the node itself, or of one of its kids
pub data Occurrence : Type 0 where
  own : (attribute : ℕ) → Occurrence
  kid : (child number attribute : ℕ) → Occurrence

-- What a rule reads: an attribute of the node (`self`), of its single child, of the kid that a fold has come to (`this`
-- in its step), of the kid that the rule is for (`this`), of the kid before that one (`prev`), or of the last kid
-- (`last`).
pub data Read : Type 0 where
  self_read : (attribute : ℕ) → Read
  single_read : (child attribute : ℕ) → Read
  each_read : (child attribute : ℕ) → Read
  this_read : (child attribute : ℕ) → Read
  prev_read : (child attribute : ℕ) → Read
  last_read : (child attribute : ℕ) → Read

-- the kid before the one of this number, as what is seen of it; nothing where there is none
abbrev pub kid_before : (child attribute : ℕ) → (number : ℕ) → List Occurrence
kid_before c a zero = []
kid_before c a (suc k) = kid c k a ∷ []

-- The occurrences that a read is of, where there are so many kids in each child and this one is at hand: the kid that
-- the rule is for, or the one that a fold has come to. `prev` is of none at the first kid, and `last` where there is no
-- kid.
abbrev pub occurrences : (kids : ℕ → ℕ) → (at_hand : ℕ) → Read → List Occurrence
occurrences kids k (self_read a) = own a ∷ []
occurrences kids k (single_read c a) = kid c 0 a ∷ []
occurrences kids k (each_read c a) = kid c k a ∷ []
occurrences kids k (this_read c a) = kid c k a ∷ []
occurrences kids k (prev_read c a) = kid_before c a k
occurrences kids k (last_read c a) = kid_before c a (kids c)

-- The parts of a rule, each with its reads in the order of the text: one expression; one for the first kid and one for
-- each later kid; or a fold over the kids of a child, with its start and the step that it takes at each kid.
pub data Parts : Type 0 where
  plain : (reads : List Read) → Parts
  first_then : (first later : List Read) → Parts
  fold_over : (child : ℕ) (start step : List Read) → Parts

-- a part of a rule
pub data Part : Type 0 where
  plain_part : Part
  first_part : Part
  then_part : Part
  from_part : Part
  with_part : Part

-- the reads of a part; none of a part that the rule hasn't
abbrev pub reads_in : Parts → Part → List Read
reads_in (plain reads) plain_part = reads
reads_in (first_then first later) first_part = first
reads_in (first_then first later) then_part = later
reads_in (fold_over child start step) from_part = start
reads_in (fold_over child start step) with_part = step
reads_in _ _ = []

-- the occurrences that some reads are of, in order, while this kid is at hand
abbrev pub seen_by : (kids : ℕ → ℕ) → (at_hand : ℕ) → List Read → List Occurrence
seen_by kids k reads = flat_map (occurrences kids k) reads

-- The occurrences that a rule reads for the kid of this number (0 where the rule is for the node itself), in the order
-- of the text, each as often as it is read; the step of a fold is read at each kid, from the first to the last.
abbrev pub read_occurrences : Parts → (kids : ℕ → ℕ) → (number : ℕ) → List Occurrence
read_occurrences (plain reads) kids k = seen_by kids k reads
read_occurrences (first_then first later) kids zero = seen_by kids 0 first
read_occurrences (first_then first later) kids (suc k) = seen_by kids (suc k) later
read_occurrences (fold_over child start step) kids k =
    seen_by kids k start ++ flat_map (λ n. seen_by kids n step) (range_with_len 0 (kids child))

-- A rule: its parts, and its value from how many kids each child has, the number of the kid that it is for, and the
-- value of each occurrence.
pub record Rule : Type 0 where
  pub parts : Parts
  pub value : (ℕ → ℕ) → ℕ → (Occurrence → Value) → Value

-- a rule by the class that has it: for an attribute of the node itself, or of its kids in a child
pub data RuleName : Type 0 where
  for_self : (class attribute : ℕ) → RuleName
  for_child : (class child attribute : ℕ) → RuleName

-- the kinds of attributes
pub data Sort : Type 0 where
  input : Sort
  inherited : Sort
  synthesized : Sort
  local : Sort

-- Numbers are from 0. `greatest` is the greatest number of the grammar's width, and of an input. Attributes are
-- numbered over the whole grammar, and `sort` has the kind of each; `shared` has the attributes of an interface,
-- `private` those that a class adds, each in the order of declaration. `self_rule class a` defines attribute a of a
-- node, by the rules of its own class, and `child_rule class c a` that of each kid in child c, by the rules of the
-- class above; `rules` has all of them in the order of the text.
pub record AttributeGrammar : Type 0 where
  pub greatest : ℕ
  pub root : ℕ
  pub interface_count : ℕ
  pub class_count : ℕ
  pub attribute_count : ℕ
  pub interface : ℕ → ℕ
  pub child_count : ℕ → ℕ
  pub child_interface : ℕ → ℕ → ℕ
  pub is_list : ℕ → ℕ → Bool
  pub shared : ℕ → List ℕ
  pub private : ℕ → List ℕ
  pub sort : ℕ → Sort
  pub rules : List RuleName
  pub self_rule : ℕ → ℕ → Rule
  pub child_rule : ℕ → ℕ → ℕ → Rule

-- the attributes of a class: its interface's, then its own
abbrev pub attributes_of : AttributeGrammar → (class : ℕ) → List ℕ
attributes_of g class = g.shared (g.interface class) ++ g.private class

-- whether an attribute is the document's to give
abbrev pub is_input : Sort → Bool
is_input input = true
is_input inherited = false
is_input synthesized = false
is_input local = false

-- the inputs of a class, in the order in which a node has its numbers
abbrev pub class_inputs : AttributeGrammar → (class : ℕ) → List ℕ
class_inputs g class = filter (λ a. is_input (g.sort a)) (attributes_of g class)

-- the value of an input of a node of this class: the number at the input's place among those of the class
abbrev pub input_value : AttributeGrammar → (class attribute : ℕ) → (numbers : List ℤ) → Value
input_value g class a numbers = number (slice_index_or numbers (place_in (class_inputs g class) a) (pos 0))
