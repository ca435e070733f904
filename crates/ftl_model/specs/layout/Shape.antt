-- A family of trees as a list of its nodes in preorder, each with how many nodes stand below it.
use Rattle.std.specs.Prelude.{ℕ, zero, suc, List, [], ◌∷◌, ◌++◌, length, take, drop, ℤ}
use Rattle.ftl_model.specs.layout.Tree.{Forest, none, tree, size}

-- a node of a list in preorder: its class, the child that it stands in, its inputs, and how many nodes stand below it
pub record Shape : Type 0 where
  pub class : ℕ
  pub child : ℕ
  pub inputs : List ℤ
  pub below : ℕ

-- a node of these parts
abbrev pub shape : ℕ → ℕ → List ℤ → ℕ → Shape
shape class child inputs below = record { class = class; child = child; inputs = inputs; below = below }

-- the nodes of a family of trees, in preorder
abbrev pub shapes : Forest → List Shape
shapes none = []
shapes (tree class child inputs below beside) =
    (shape class child inputs (size below) ∷ shapes below) ++ shapes beside

-- the trees that have these nodes; there are no more steps than nodes
abbrev pub forest_within : ℕ → List Shape → Forest
forest_within zero nodes = none
forest_within (suc steps) [] = none
forest_within (suc steps) (node ∷ nodes) =
    tree node.class node.child node.inputs (forest_within steps (take node.below nodes))
    (forest_within steps (drop node.below nodes))

-- the trees that have these nodes
abbrev pub forest_of : List Shape → Forest
forest_of nodes = forest_within (length nodes) nodes
