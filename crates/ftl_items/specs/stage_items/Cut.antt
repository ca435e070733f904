-- Where the items of a pass begin, and which nodes each has: a whole tree of few nodes, or one visit of a node whose
-- tree is larger.
use Rattle.std.specs.Prelude.{ℕ, nat_le, Bool, true, false, not, if◌then◌else◌, List, [], ◌∷◌, filter, reverse}
use Rattle.ftl_model.specs.layout.Tree.{Forest, below_of}
use Rattle.ftl_model.specs.layout.Path.{Path, at, down, nodes_below, preorder, size_at, top}
use Rattle.ftl_order.specs.orders.Schedule.{PassKind, bottomup, inorder, topdown}

-- the nodes of the tree at a node, in preorder
abbrev pub subtree : Forest → Path → List Path
subtree t p = p ∷ nodes_below p (λ c. 0) (below_of (at t p))

-- neither the node nor one above it passes the test of the nodes that are one item with all below them
abbrev pub is_open : (is_whole : Path → Bool) → Path → Bool
is_open is_whole top = not (is_whole top)
is_open is_whole (down child kid above) =
    if is_whole (down child kid above) then false else is_open is_whole above

-- an item begins at this node: at the root, and at each node that has no such node above it
abbrev pub begins_by : (is_whole : Path → Bool) → Path → Bool
begins_by is_whole top = true
begins_by is_whole (down child kid above) = is_open is_whole above

-- the nodes of the item that begins at a node: its whole tree where it passes the test, or else the node alone
abbrev pub nodes_by : (is_whole : Path → Bool) → Forest → Path → List Path
nodes_by is_whole t p = if is_whole p then subtree t p else p ∷ []

-- the nodes at which the items of a pass begin, in the order of the items: preorder for topdown, reverse preorder for
-- bottomup; an inorder pass is one item
abbrev pub tops_by : PassKind → (is_whole : Path → Bool) → Forest → List Path
tops_by topdown is_whole t = filter (begins_by is_whole) (preorder t)
tops_by bottomup is_whole t = reverse (filter (begins_by is_whole) (preorder t))
tops_by inorder is_whole t = top ∷ []

-- how a pass is cut into items: its kind, and which nodes are one item with all below them
pub record PassCut : Type 0 where
  pub kind : PassKind
  pub is_whole : Path → Bool

-- the nodes at which the items of the pass of a number begin, where the passes of a stage are cut so
abbrev pub starts : (cuts : ℕ → PassCut) → Forest → (pass : ℕ) → List Path
starts cuts t m = tops_by (cuts m).kind (cuts m).is_whole t

-- ---- where small trees are one item

-- the tree at a node has at most so many nodes
abbrev pub is_small : Forest → (grain : ℕ) → Path → Bool
is_small t grain p = nat_le (size_at t p) grain

-- an item begins at this node: no node above it has a small tree
abbrev pub begins : Forest → (grain : ℕ) → Path → Bool
begins t grain p = begins_by (is_small t grain) p

-- the nodes of the item that begins at a node: its whole tree where that is small, or else the node alone
abbrev pub nodes_of : Forest → (grain : ℕ) → Path → List Path
nodes_of t grain p = nodes_by (is_small t grain) t p

-- the nodes at which the items of a pass begin
abbrev pub tops : PassKind → Forest → (grain : ℕ) → List Path
tops kind t grain = tops_by kind (is_small t grain) t
