-- Trees of boxes, as a family of trees side by side. What classes, children and inputs mean is for a grammar to say.
use Rattle.std.specs.Prelude.{ℕ, zero, suc, ◌+◌, max, ◌==◌, if◌then◌else◌, ℤ, List, []}

-- Trees side by side, first to last. Each has a class, says in which declared child of its parent it stands, and has
-- its inputs in the order of their declaration, the trees below it, and the trees beside it that come later.
pub data Forest : Type 0 where
  none : Forest
  tree : (class child : ℕ) (inputs : List ℤ) (below beside : Forest) → Forest

-- how many nodes there are
abbrev pub size : Forest → ℕ
size none = 0
size (tree class child inputs below beside) = suc (size below + size beside)

-- what the first tree is
abbrev pub IsTree : Forest → Type 0
IsTree none = ⊥
IsTree (tree class child inputs below beside) = Unit {0}

-- the class of the first tree
abbrev pub class_of : Forest → ℕ
class_of none = 0
class_of (tree class child inputs below beside) = class

-- the child in which the first tree stands
abbrev pub child_of : Forest → ℕ
child_of none = 0
child_of (tree class child inputs below beside) = child

-- the inputs of the first tree
abbrev pub inputs_of : Forest → List ℤ
inputs_of none = []
inputs_of (tree class child inputs below beside) = inputs

-- the trees below the first one
abbrev pub below_of : Forest → Forest
below_of none = none
below_of (tree class child inputs below beside) = below

-- how many of the trees stand in this child
abbrev pub count_in : ℕ → Forest → ℕ
count_in c none = 0
count_in c (tree class child inputs below beside) =
    if child == c then suc (count_in c beside) else count_in c beside

-- the trees from the kid of this number in this child on; numbers are from 0
abbrev pub from_kid : (child kid : ℕ) → Forest → Forest
from_kid c k none = none
from_kid c zero (tree class child inputs below beside) =
    if child == c then tree class child inputs below beside else from_kid c zero beside
from_kid c (suc k) (tree class child inputs below beside) =
    if child == c then from_kid c k beside else from_kid c (suc k) beside

-- how many nodes stand before the kid of this number in this child, in preorder
abbrev pub nodes_before : (child kid : ℕ) → Forest → ℕ
nodes_before c k none = 0
nodes_before c zero (tree class child inputs below beside) =
    if child == c then 0 else suc (size below + nodes_before c zero beside)
nodes_before c (suc k) (tree class child inputs below beside) =
    if child == c then suc (size below + nodes_before c k beside) else suc (size below + nodes_before c (suc k) beside)

-- how many nodes stand in one another at most
abbrev pub depth : Forest → ℕ
depth none = 0
depth (tree class child inputs below beside) = max (suc (depth below)) (depth beside)
