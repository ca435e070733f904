-- The nodes of a tree: a node is its way up to the root.
use Rattle.std.specs.Prelude.{◌≡◌, ℕ, suc, ◌+◌, ◌==◌, if◌then◌else◌, ℤ, List, [], ◌∷◌, ◌++◌, Option, Some, None}
use Rattle.std.specs.Prelude.{slice_index_or, ◌⊎◌}
use Rattle.ftl_model.specs.layout.Tree.{Forest, none, tree, IsTree, class_of, inputs_of, below_of, size, count_in, from_kid}
use Rattle.ftl_model.specs.layout.Tree.{nodes_before}

-- the root, or the kid of this number in this child of the node above
pub data Path : Type 0 where
  top : Path
  down : (child kid : ℕ) (above : Path) → Path

-- the node above
abbrev pub parent_of : Path → Option Path
parent_of top = None
parent_of (down child kid above) = Some above

-- in which child of its parent a node stands, and as which of its kids; 0 for the root
abbrev pub child_at : Path → ℕ
child_at top = 0
child_at (down child kid above) = child

-- as which of the kids of its child a node stands; 0 for the root
abbrev pub kid_at : Path → ℕ
kid_at top = 0
kid_at (down child kid above) = kid

-- the trees from this node on: the node with all below it, and the trees beside it that come later
abbrev pub at : Forest → Path → Forest
at t top = t
at t (down child kid above) = from_kid child kid (below_of (at t above))

-- the tree has this node
abbrev pub Has : Forest → Path → Type 0
Has t p = IsTree (at t p)

-- the class of a node
abbrev pub class_at : Forest → Path → ℕ
class_at t p = class_of (at t p)

-- the inputs of a node
abbrev pub inputs_at : Forest → Path → List ℤ
inputs_at t p = inputs_of (at t p)

-- how many kids a node has in a child
abbrev pub kids_at : Forest → Path → ℕ → ℕ
kids_at t p child = count_in child (below_of (at t p))

-- how many nodes the tree at this node has
abbrev pub size_at : Forest → Path → ℕ
size_at t p = suc (size (below_of (at t p)))

-- the number of a node in preorder, from 0
abbrev pub number_of : Forest → Path → ℕ
number_of t top = 0
number_of t (down child kid above) = suc (number_of t above + nodes_before child kid (below_of (at t above)))

-- how many kids of each child came before, once one more of this child has
abbrev pub one_more : ℕ → (ℕ → ℕ) → ℕ → ℕ
one_more child seen c = if child == c then suc (seen c) else seen c

-- the nodes of trees side by side, in preorder: where they stand below a node, so many kids of each child having come
abbrev pub nodes_below : Path → (ℕ → ℕ) → Forest → List Path
nodes_below p seen none = []
nodes_below p seen (tree class child inputs below beside) =
    (down child (seen child) p ∷ nodes_below (down child (seen child) p) (λ c. 0) below)
    ++ nodes_below p (one_more child seen) beside

-- all nodes of a tree, in preorder
abbrev pub preorder : Forest → List Path
preorder t = top ∷ nodes_below top (λ c. 0) (below_of t)

-- the node of this number in preorder
abbrev pub node_at : Forest → ℕ → Path
node_at t n = slice_index_or (preorder t) n top

-- p is q's parent, or its parent's parent, and so on
abbrev pub Above : Path → Path → Type 0
Above p top = ⊥
Above p (down child kid above) = (p ≡ above) ⊎ Above p above

-- p is q, or above it
abbrev pub AtOrAbove : Path → Path → Type 0
AtOrAbove p q = (p ≡ q) ⊎ Above p q
