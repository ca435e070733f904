-- What a grammar with its names gone has to meet: which numbers it may use, which attributes there may be, what each
-- rule may read, and that its value depends on these reads alone. It speaks of the grammar and of no tree.
use Rattle.std.specs.Prelude.{◌≡◌, ◌≢◌, ◌⊎◌, ℕ, ◌<◌, true, false, List, ◌++◌, flat_map, Contains}
use Rattle.std.specs.List.{range_with_len}
use Rattle.ftl_model.specs.lists.Lists.{AreDistinct, NoneFalls}
use Rattle.ftl_model.specs.layout.AttributeGrammar.{AttributeGrammar, Occurrence, Parts, Read, Rule, RuleName, Sort}
use Rattle.ftl_model.specs.layout.AttributeGrammar.{attributes_of, each_read, first_then, fold_over, for_child, for_self}
use Rattle.ftl_model.specs.layout.AttributeGrammar.{inherited, input, last_read, local, plain, prev_read, read_occurrences}
use Rattle.ftl_model.specs.layout.AttributeGrammar.{self_read, single_read, synthesized, this_read}
use Rattle.ftl_model.specs.layout.Values.{IsValueIn, Value, narrow, wide}

-- ---- attributes, and who declares them

-- an interface, or a class
pub data Owner : Type 0 where
  interface_owner : (interface : ℕ) → Owner
  class_owner : (class : ℕ) → Owner

-- the interface shares the attribute, or the class adds it
abbrev pub Owns : AttributeGrammar → Owner → ℕ → Type 0
Owns g (interface_owner i) a = (i < g.interface_count) × Contains (g.shared i) a
Owns g (class_owner k) a = (k < g.class_count) × Contains (g.private k) a

-- an attribute of the class
abbrev pub OfClass : AttributeGrammar → ℕ → ℕ → Type 0
OfClass g class a = Contains (attributes_of g class) a

-- an attribute of the interface of a class's child
abbrev pub OfChild : AttributeGrammar → ℕ → ℕ → ℕ → Type 0
OfChild g class c a = Contains (g.shared (g.child_interface class c)) a

-- an attribute that a rule of the node's own class defines
abbrev pub IsOwnSort : Sort → Type 0
IsOwnSort sort = (sort ≡ synthesized) ⊎ (sort ≡ local)

-- ---- rules

-- a declared child that has one kid
abbrev pub IsSingle : AttributeGrammar → ℕ → ℕ → Type 0
IsSingle g class c = (c < g.child_count class) × (g.is_list class c ≡ false)

-- a declared child that has a list of kids
abbrev pub IsListChild : AttributeGrammar → ℕ → ℕ → Type 0
IsListChild g class c = (c < g.child_count class) × (g.is_list class c ≡ true)

-- the class that has the rule
abbrev pub class_of_rule : RuleName → ℕ
class_of_rule (for_self class a) = class
class_of_rule (for_child class c a) = class

-- a rule that the grammar has: for a computed attribute of a class, or an inherited one of a child
abbrev pub IsRule : AttributeGrammar → RuleName → Type 0
IsRule g (for_self class a) = (class < g.class_count) × OfClass g class a × IsOwnSort (g.sort a)
IsRule g (for_child class c a) =
    (class < g.class_count) × (c < g.child_count class) × OfChild g class c a × (g.sort a ≡ inherited)

-- ---- what may be read

-- the reads that a rule for the node itself may have: `last`, but neither `this` nor `prev`
abbrev pub MayReadForSelf : AttributeGrammar → ℕ → Read → Type 0
MayReadForSelf g class (self_read a) = OfClass g class a
MayReadForSelf g class (single_read c a) = IsSingle g class c × OfChild g class c a
MayReadForSelf g class (each_read c a) = ⊥
MayReadForSelf g class (this_read c a) = ⊥
MayReadForSelf g class (prev_read c a) = ⊥
MayReadForSelf g class (last_read c a) = IsListChild g class c × OfChild g class c a

-- in the step of a fold over child `c` also `this`, of that child
abbrev pub MayReadInStep : AttributeGrammar → ℕ → (c : ℕ) → Read → Type 0
MayReadInStep g class c (self_read a) = MayReadForSelf g class (self_read a)
MayReadInStep g class c (single_read d a) = MayReadForSelf g class (single_read d a)
MayReadInStep g class c (each_read d a) = (d ≡ c) × OfChild g class c a
MayReadInStep g class c (this_read d a) = ⊥
MayReadInStep g class c (prev_read d a) = ⊥
MayReadInStep g class c (last_read d a) = MayReadForSelf g class (last_read d a)

-- the reads that a rule for the kids in child `c` may have: `this` over a list, of its own kids alone, and `last` where
-- it is for a single child
abbrev pub MayReadForChild : AttributeGrammar → ℕ → ℕ → Read → Type 0
MayReadForChild g class c (self_read a) = OfClass g class a
MayReadForChild g class c (single_read d a) = IsSingle g class d × OfChild g class d a
MayReadForChild g class c (each_read d a) = ⊥
MayReadForChild g class c (this_read d a) = (d ≡ c) × IsListChild g class c × OfChild g class c a
MayReadForChild g class c (prev_read d a) = ⊥
MayReadForChild g class c (last_read d a) = IsSingle g class c × IsListChild g class d × OfChild g class d a

-- in the part for the later kids also `prev`
abbrev pub MayReadLater : AttributeGrammar → ℕ → ℕ → Read → Type 0
MayReadLater g class c (self_read a) = MayReadForChild g class c (self_read a)
MayReadLater g class c (single_read d a) = MayReadForChild g class c (single_read d a)
MayReadLater g class c (each_read d a) = ⊥
MayReadLater g class c (this_read d a) = MayReadForChild g class c (this_read d a)
MayReadLater g class c (prev_read d a) = (d ≡ c) × IsListChild g class c × OfChild g class c a
MayReadLater g class c (last_read d a) = MayReadForChild g class c (last_read d a)

-- each of some reads is allowed
abbrev pub EachMay : (Read → Type 0) → List Read → Type 0
EachMay May reads = (r : Read) → Contains reads r → May r

-- the parts that a rule for the node itself may have: one expression, or a fold over a list
abbrev pub PartsForSelf : AttributeGrammar → (class : ℕ) → Parts → Type 0
PartsForSelf g class (plain reads) = EachMay (MayReadForSelf g class) reads
PartsForSelf g class (first_then first later) = ⊥
PartsForSelf g class (fold_over c start step) =
    IsListChild g class c × EachMay (MayReadForSelf g class) start × EachMay (MayReadInStep g class c) step

-- the parts that a rule for the kids of a child may have: one expression, or over a list one for the first kid and one
-- for the later ones
abbrev pub PartsForChild : AttributeGrammar → (class c : ℕ) → Parts → Type 0
PartsForChild g class c (plain reads) = EachMay (MayReadForChild g class c) reads
PartsForChild g class c (first_then first later) =
    IsListChild g class c × EachMay (MayReadForChild g class c) first × EachMay (MayReadLater g class c) later
PartsForChild g class c (fold_over d start step) = ⊥

-- the rule's value for this kid depends on what it reads alone: two tables that agree on that give one value
abbrev pub IsAlone : Rule → (number : ℕ) → Type 0
IsAlone rule k =
    (kids : ℕ → ℕ) (s t : Occurrence → Value)
    → ((o : Occurrence) → Contains (read_occurrences rule.parts kids k) o → s o ≡ t o)
    → rule.value kids k s ≡ rule.value kids k t

-- the rule's value for this kid is in the range of the width, where what it reads is
abbrev pub KeepsRange : (greatest : ℕ) → Rule → (number : ℕ) → Type 0
KeepsRange greatest rule k =
    (kids : ℕ → ℕ) (s : Occurrence → Value)
    → ((o : Occurrence) → Contains (read_occurrences rule.parts kids k) o → IsValueIn greatest (s o))
    → IsValueIn greatest (rule.value kids k s)

-- ---- lawful grammars

-- the attributes that are declared: interface by interface, and then class by class
abbrev pub declared : AttributeGrammar → List ℕ
declared g =
    flat_map g.shared (range_with_len 0 g.interface_count) ++ flat_map g.private (range_with_len 0 g.class_count)

-- The width is one of the two. All numbers are in range, and attributes are numbered as they are declared, each once.
-- The interfaces share inputs, inherited and synthesized attributes, and the root's has none that is inherited; a class
-- adds inputs and locals. The list of rules has each rule once, class by class. Each rule reads what it may, depends on
-- it alone, and keeps to the range of the width.
pub record IsLawful (g : AttributeGrammar) : Type 0 where
  pub width : (g.greatest ≡ narrow) ⊎ (g.greatest ≡ wide)
  pub root_known : g.root < g.interface_count
  pub interfaces_known : (k : ℕ) → k < g.class_count → g.interface k < g.interface_count
  pub children_known :
      (k c : ℕ) → k < g.class_count → c < g.child_count k → g.child_interface k c < g.interface_count
  pub numbering : declared g ≡ range_with_len 0 g.attribute_count
  pub shared_sorts : (i a : ℕ) → Owns g (interface_owner i) a → g.sort a ≢ local
  pub root_sorts : (a : ℕ) → Contains (g.shared g.root) a → g.sort a ≢ inherited
  pub private_sorts : (k a : ℕ) → Owns g (class_owner k) a → (g.sort a ≡ input) ⊎ (g.sort a ≡ local)
  pub rules_are : (w : RuleName) → Contains g.rules w → IsRule g w
  pub rules_have : (w : RuleName) → IsRule g w → Contains g.rules w
  pub rules_once : AreDistinct g.rules
  pub rules_by_class : NoneFalls class_of_rule g.rules
  pub self_parts : (k a : ℕ) → IsRule g (for_self k a) → PartsForSelf g k (g.self_rule k a).parts
  pub self_alone : (k a : ℕ) → IsRule g (for_self k a) → IsAlone (g.self_rule k a) 0
  pub self_range : (k a : ℕ) → IsRule g (for_self k a) → KeepsRange g.greatest (g.self_rule k a) 0
  pub child_parts : (k c a : ℕ) → IsRule g (for_child k c a) → PartsForChild g k c (g.child_rule k c a).parts
  pub child_alone :
      (k c a : ℕ) → IsRule g (for_child k c a) → (number : ℕ) → IsAlone (g.child_rule k c a) number
  pub child_range :
      (k c a : ℕ) → IsRule g (for_child k c a) → (number : ℕ) → KeepsRange g.greatest (g.child_rule k c a) number
