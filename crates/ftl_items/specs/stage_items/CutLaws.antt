-- What the cut of a pass is: each node lies in one item, which is a small tree in no larger one, or a single node in
-- no small tree.
use Rattle.std.specs.Prelude.{◌≡◌, ◌≢◌, ◌⊎◌, ◌↔◌, ℕ, ◌<◌, ◌≤◌, true, [], ◌∷◌, Contains, Some}
use Rattle.ftl_model.specs.lists.Lists.{AreDistinct}
use Rattle.ftl_model.specs.layout.Path.{Above, AtOrAbove, Has, Path, down, parent_of, size_at}
use Rattle.ftl_model.specs.layout.Tree.{Forest, IsTree}
use Rattle.ftl_order.specs.orders.Schedule.{PassKind, bottomup, inorder, topdown}
use Rattle.ftl_items.specs.stage_items.Cut.{nodes_of, subtree, tops}
use Rattle.ftl_items.specs.stage_items.Items.{hands_on}

-- of each tree, grain and pass that is no inorder one
abbrev pub OfCuts : (PassKind → Forest → (grain : ℕ) → Type 0) → Type 0
OfCuts P = (kind : PassKind) (t : Forest) (grain : ℕ) → kind ≢ inorder → IsTree t → P kind t grain

-- the tree at the node has at most so many nodes, and no tree above it has
abbrev pub IsLargestSmall : Forest → (grain : ℕ) → Path → Type 0
IsLargestSmall t grain p = (size_at t p ≤ grain) × ((q : Path) → Above q p → grain < size_at t q)

-- each tree that the node lies in has more nodes
abbrev pub LiesInNoSmall : Forest → (grain : ℕ) → Path → Type 0
LiesInNoSmall t grain p = (q : Path) → AtOrAbove q p → grain < size_at t q

-- the list of a tree's nodes has those at or below its first one
abbrev pub SubtreesHaveTheirNodes : Type 0
SubtreesHaveTheirNodes =
    (t : Forest) (p q : Path) → Has t p → Contains (subtree t p) q ↔ (AtOrAbove p q × Has t q)

-- a node lies in the item that begins at the first
abbrev pub LiesIn : PassKind → Forest → (grain : ℕ) → (first : Path) → Path → Type 0
LiesIn kind t grain first p = Contains (tops kind t grain) first × Contains (nodes_of t grain first) p

-- each node lies in exactly one item
abbrev pub EachNodeInOneItem : PassKind → Forest → (grain : ℕ) → Type 0
EachNodeInOneItem kind t grain =
    (p : Path) → Has t p
    → (first : Path) × LiesIn kind t grain first p
    × ((other : Path) → LiesIn kind t grain other p → other ≡ first)

-- and items have nodes of the tree alone
abbrev pub ItemsHaveNodes : PassKind → Forest → (grain : ℕ) → Type 0
ItemsHaveNodes kind t grain = (first p : Path) → LiesIn kind t grain first p → Has t p

-- no two items begin at one node
abbrev pub ItemsBeginOnce : PassKind → Forest → (grain : ℕ) → Type 0
ItemsBeginOnce kind t grain = AreDistinct (tops kind t grain)

-- an item begins at a node exactly where its tree is a largest small one, or it lies in no small one
abbrev pub ItemsAreOfTwoSorts : PassKind → Forest → (grain : ℕ) → Type 0
ItemsAreOfTwoSorts kind t grain =
    (p : Path) → Has t p
    → Contains (tops kind t grain) p ↔ (IsLargestSmall t grain p ⊎ LiesInNoSmall t grain p)

-- of the first sort it has the whole tree, of the second the node alone
abbrev pub ItemsHaveTheirNodes : Type 0
ItemsHaveTheirNodes =
    (t : Forest) (grain : ℕ) (p : Path)
    → (IsLargestSmall t grain p → nodes_of t grain p ≡ subtree t p)
    × (LiesInNoSmall t grain p → nodes_of t grain p ≡ p ∷ [])

-- at a grain of 1 or 0 each node is an item of its own
abbrev pub SmallestGrains : PassKind → Forest → (grain : ℕ) → Type 0
SmallestGrains kind t grain =
    grain ≤ 1 → (p : Path) → Has t p → Contains (tops kind t grain) p × (nodes_of t grain p ≡ p ∷ [])

-- in a topdown pass an item of the second sort hands on to the items that hold its node's kids, another to none
abbrev pub TopdownHandsOn : Type 0
TopdownHandsOn =
    (t : Forest) (grain : ℕ) → IsTree t
    → (p q : Path) → Contains (tops topdown t grain) p → Contains (tops topdown t grain) q
    → (hands_on topdown p q ≡ true)
    ↔ (LiesInNoSmall t grain p
    × ((c : ℕ) × (k : ℕ) × Has t (down c k p) × Contains (nodes_of t grain q) (down c k p)))

-- in a bottomup pass an item hands on to the one that holds its first node's parent
abbrev pub BottomupHandsOn : Type 0
BottomupHandsOn =
    (t : Forest) (grain : ℕ) → IsTree t
    → (p q : Path) → Contains (tops bottomup t grain) p → Contains (tops bottomup t grain) q
    → (hands_on bottomup p q ≡ true)
    ↔ ((above : Path) × (parent_of p ≡ Some above) × Contains (nodes_of t grain q) above)
