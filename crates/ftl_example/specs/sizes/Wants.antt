-- The kids that a node has at least, and the size of the least node that has them.
use Rattle.std.specs.Prelude.{◌≡◌, ℕ, zero, suc, ◌<◌, ◌==◌, if◌then◌else◌, Option, None, Some, List, [], ◌∷◌}
use Rattle.ftl_model.specs.layout.Tree.{Forest, none, tree, IsTree, class_of, below_of, count_in, from_kid}
use Rattle.ftl_model.specs.layout.AttributeGrammar.{AttributeGrammar}
use Rattle.ftl_example.specs.sizes.Least.{plus}

-- the trees that stand beside the first one
abbrev pub beside_of : Forest → Forest
beside_of none = none
beside_of (tree class child inputs below beside) = beside

-- among the kids in child c there are such ones, in this order
abbrev pub Meets : {W : Type 0} → (W → ℕ → Forest → Type 0) → (c : ℕ) → List W → Forest → Type 0
Meets Is c [] f = Unit {0}
Meets Is c (x ∷ xs) f =
    (n : ℕ) × IsTree (from_kid c n f) × Is x (class_of (from_kid c n f)) (below_of (from_kid c n f))
    × Meets Is c xs (beside_of (from_kid c n f))

-- the kids in child c are these
abbrev pub AreKids : {W : Type 0} → (W → ℕ → Forest → Type 0) → (c : ℕ) → List W → Forest → Type 0
AreKids Is c [] f = count_in c f ≡ 0
AreKids Is c (x ∷ xs) f =
    IsTree (from_kid c 0 f) × Is x (class_of (from_kid c 0 f)) (below_of (from_kid c 0 f))
    × AreKids Is c xs (beside_of (from_kid c 0 f))

-- a node of class k that has such kids in each child, or just these
abbrev pub HasKids : {W : Type 0} → AttributeGrammar → (W → ℕ → Forest → Type 0) → (wants : ℕ → List W) → (k : ℕ)
    → ℕ → Forest → Type 0
HasKids g Is wants k class below =
    (class ≡ k) × ((c : ℕ) → c < g.child_count k → Meets Is c (wants c) below)

abbrev pub HasJust : {W : Type 0} → AttributeGrammar → (W → ℕ → Forest → Type 0) → (wants : ℕ → List W) → (k : ℕ)
    → ℕ → Forest → Type 0
HasJust g Is wants k class below =
    (class ≡ k) × ((c : ℕ) → c < g.child_count k → AreKids Is c (wants c) below)

-- the sizes of such kids of a child of this interface, in all
abbrev pub kids_size : {W : Type 0} → (W → ℕ → Option ℕ) → (interface : ℕ) → List W → Option ℕ
kids_size size i [] = Some 0
kids_size size i (x ∷ xs) = plus (size x i) (kids_size size i xs)

-- of the kids in the children before the n-th
abbrev pub below_size : {W : Type 0} → AttributeGrammar → (W → ℕ → Option ℕ) → (ℕ → List W) → (class n : ℕ) → Option ℕ
below_size g size wants class zero = Some 0
below_size g size wants class (suc n) =
    plus (kids_size size (g.child_interface class n) (wants n)) (below_size g size wants class n)

-- of the least node of the class with them, where its interface is i
abbrev pub wanted_size : {W : Type 0} → AttributeGrammar → (W → ℕ → Option ℕ) → (ℕ → List W) → (class i : ℕ) → Option ℕ
wanted_size g size wants class i =
    if g.interface class == i then plus (Some 1) (below_size g size wants class (g.child_count class)) else None
