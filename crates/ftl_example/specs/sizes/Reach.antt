-- The least tree that has a place: a least way from the root to it, with least trees beside the way.
use Rattle.std.specs.Prelude.{◌≡◌, ◌⊎◌, ℕ, zero, suc, ◌≤◌, ◌==◌, if◌then◌else◌, Option, None, Some, List, ℤ}
use Rattle.ftl_model.specs.layout.Tree.{Forest, none, tree, size}
use Rattle.ftl_model.specs.layout.AttributeGrammar.{AttributeGrammar}
use Rattle.ftl_model.specs.layout.TreeOf.{FitsClass, FitBelow}
use Rattle.ftl_example.specs.shows.Bare.{IsBare, bare_inputs}
use Rattle.ftl_example.specs.sizes.Least.{plus, lesser}

-- the sizes of the single children before the n-th but child d
abbrev pub others : AttributeGrammar → (ℕ → Option ℕ) → (class d n : ℕ) → Option ℕ
others g size class d zero = Some 0
others g size class d (suc n) =
    if n == d then others g size class d n
    else (if g.is_list class n then others g size class d n
    else plus (size (g.child_interface class n)) (others g size class d n))

abbrev pub way_size : AttributeGrammar → (size next : ℕ → Option ℕ) → (class d : ℕ) → Option ℕ
way_size g size next class d =
    plus (Some 1) (plus (next (g.child_interface class d)) (others g size class d (g.child_count class)))

abbrev pub ways : AttributeGrammar → (size next : ℕ → Option ℕ) → (class n : ℕ) → Option ℕ
ways g size next class zero = None
ways g size next class (suc n) = lesser (ways g size next class n) (way_size g size next class n)

abbrev pub best_way : AttributeGrammar → (size next : ℕ → Option ℕ) → (i n : ℕ) → Option ℕ
best_way g size next i zero = None
best_way g size next i (suc n) =
    if g.interface n == i then lesser (best_way g size next i n) (ways g size next n (g.child_count n))
    else best_way g size next i n

-- after so many rounds; `start` has the least sizes of trees whose root is the place
abbrev pub reach : AttributeGrammar → (size start : ℕ → Option ℕ) → ℕ → ℕ → Option ℕ
reach g size start zero i = start i
reach g size start (suc k) i = lesser (start i) (best_way g size (reach g size start k) i g.class_count)

-- a node of these trees is the place
abbrev pub HoldsPlace : (ℕ → Forest → Type 0) → Forest → Type 0
HoldsPlace P none = ⊥
HoldsPlace P (tree class child inputs below beside) = P class below ⊎ (HoldsPlace P below ⊎ HoldsPlace P beside)

abbrev pub IsAtMost : Option ℕ → ℕ → Type 0
IsAtMost o n = (m : ℕ) × (o ≡ Some m) × (m ≤ n)

-- a node of the interface with what stands below it, of so many nodes
abbrev pub IsNode : AttributeGrammar → (ℕ → Forest → Type 0) → ℕ → ℕ → Type 0
IsNode g P i n = (class : ℕ) × (inputs : List ℤ) × (below : Forest) × (g.interface class ≡ i)
    × FitsClass g class inputs below × FitBelow g class below × P class below × (suc (size below) ≡ n)

abbrev pub Anything : ℕ → Forest → Type 0
Anything class below = Unit {0}

abbrev pub HasOrHolds : (ℕ → Forest → Type 0) → ℕ → Forest → Type 0
HasOrHolds P class below = P class below ⊎ HoldsPlace P below

-- each node that is so has at least the size of its interface
abbrev pub AreFewest : AttributeGrammar → (ℕ → Forest → Type 0) → (ℕ → Option ℕ) → Type 0
AreFewest g P size_of = (i n : ℕ) → IsNode g P i n → IsAtMost (size_of i) n

-- the same with all inputs 0
abbrev pub IsBareNode : AttributeGrammar → (ℕ → Forest → Type 0) → ℕ → ℕ → Type 0
IsBareNode g P i n = (class : ℕ) × (below : Forest) × (g.interface class ≡ i)
    × FitsClass g class (bare_inputs g class) below × FitBelow g class below × IsBare g below × P class below
    × (suc (size below) ≡ n)

-- each size is that of a node that is so, with all inputs 0
abbrev pub AreSizes : AttributeGrammar → (ℕ → Forest → Type 0) → (ℕ → Option ℕ) → Type 0
AreSizes g P size_of = (i n : ℕ) → size_of i ≡ Some n → IsBareNode g P i n
