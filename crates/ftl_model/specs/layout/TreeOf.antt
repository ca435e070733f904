-- Which trees are trees of a grammar.
use Rattle.std.specs.Prelude.{◌≡◌, ℕ, ◌<◌, ◌≤◌, List, [], ◌∷◌, length, ℤ, pos, neg_ℤ, ◌≤ℤ◌, false}
use Rattle.ftl_model.specs.layout.Tree.{Forest, none, tree, count_in}
use Rattle.ftl_model.specs.layout.AttributeGrammar.{AttributeGrammar, class_inputs}

-- an input is from minus the greatest number of the width to that number
abbrev pub IsInput : (greatest : ℕ) → ℤ → Type 0
IsInput greatest n = (neg_ℤ (pos greatest) ≤ℤ n) × (n ≤ℤ pos greatest)

-- each of these is such a number
abbrev pub AreInputs : (greatest : ℕ) → List ℤ → Type 0
AreInputs greatest [] = Unit {0}
AreInputs greatest (n ∷ ns) = IsInput greatest n × AreInputs greatest ns

-- the first tree, if there is one, stands in this child or in one declared later
abbrev pub StartsFrom : ℕ → Forest → Type 0
StartsFrom c none = Unit {0}
StartsFrom c (tree class child inputs below beside) = c ≤ child

-- a node of this class has its inputs, and one tree in each child that is no list
pub record FitsClass (g : AttributeGrammar) (class : ℕ) (inputs : List ℤ) (below : Forest) : Type 0 where
  pub known : class < g.class_count
  pub count : length inputs ≡ length (class_inputs g class)
  pub numbers : AreInputs g.greatest inputs
  pub singles : (c : ℕ) → c < g.child_count class → g.is_list class c ≡ false → count_in c below ≡ 1

-- a node stands in a declared child, with a class of the child's interface
pub record FitsChild (g : AttributeGrammar) (above child class : ℕ) : Type 0 where
  pub declared : child < g.child_count above
  pub interface : g.interface class ≡ g.child_interface above child

-- these trees may stand below a node of this class, in the order in which its children are declared
abbrev pub FitBelow : AttributeGrammar → ℕ → Forest → Type 0
FitBelow g above none = Unit {0}
FitBelow g above (tree class child inputs below beside) =
    FitsChild g above child class × FitsClass g class inputs below × FitBelow g class below
    × StartsFrom child beside × FitBelow g above beside

-- one tree, whose class is of this interface
abbrev pub IsTreeIn : AttributeGrammar → (interface : ℕ) → Forest → Type 0
IsTreeIn g i none = ⊥
IsTreeIn g i (tree class child inputs below beside) =
    (g.interface class ≡ i) × FitsClass g class inputs below × FitBelow g class below × (child ≡ 0) × (beside ≡ none)

-- one tree, whose class is of the root interface
abbrev pub IsTreeOf : AttributeGrammar → Forest → Type 0
IsTreeOf g t = IsTreeIn g g.root t
