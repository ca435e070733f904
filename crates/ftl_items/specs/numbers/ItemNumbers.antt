-- The numbers of the items of a stage: what stands before each in its pass and in the stage, and which items it hands
-- on to.
use Rattle.std.specs.Prelude.{ℕ, ◌+◌, ◌-◌, Bool, if◌then◌else◌, List, [], ◌∷◌, filter, flat_map, length, map, reverse}
use Rattle.std.specs.Prelude.{take}
use Rattle.std.specs.List.{range_with_len}
use Rattle.ftl_model.specs.layout.AttributeGrammar.{AttributeGrammar}
use Rattle.ftl_model.specs.layout.Path.{Path, class_at, down, number_of, preorder, top}
use Rattle.ftl_model.specs.layout.Tree.{Forest}
use Rattle.ftl_order.specs.orders.Schedule.{Pass, PassKind, bottomup, inorder, topdown}
use Rattle.ftl_items.specs.stage_items.Cut.{PassCut, begins_by, is_small}
use Rattle.ftl_items.specs.stage_items.Items.{cut_of, items_by}
use Rattle.ftl_tree.specs.rows.KidRuns.{kid_numbers}

-- the nodes at which items of a topdown pass begin
abbrev pub first_nodes_by : (is_whole : Path → Bool) → Forest → List Path
first_nodes_by is_whole t = filter (begins_by is_whole) (preorder t)

-- how many items of a topdown pass begin at the first so many nodes, in preorder
abbrev pub items_before_by : (is_whole : Path → Bool) → Forest → (nodes : ℕ) → ℕ
items_before_by is_whole t n = length (filter (begins_by is_whole) (take n (preorder t)))

-- the place in its pass of the item that begins at a node: how many begin before it, or in a bottomup pass behind it
abbrev pub place_by : PassKind → (is_whole : Path → Bool) → Forest → Path → ℕ
place_by topdown is_whole t p = items_before_by is_whole t (number_of t p)
place_by bottomup is_whole t p =
    length (first_nodes_by is_whole t) - 1 - items_before_by is_whole t (number_of t p)
place_by inorder is_whole t p = 0

-- how many items the passes before this one have
abbrev pub start_by : (cuts : ℕ → PassCut) → Forest → (pass : ℕ) → ℕ
start_by cuts t m = length (items_by m cuts t)

-- the numbers of all kids of a node: child after child, each first to last
abbrev pub all_kids : AttributeGrammar → Forest → Path → List ℕ
all_kids g t p = flat_map (kid_numbers t p) (range_with_len 0 (g.child_count (class_at t p)))

-- the numbers of the items that begin at a node's kids, where the pass begins at a number and no kid lies in the
-- node's own item
abbrev pub kid_items_by : PassKind → AttributeGrammar → (is_whole : Path → Bool) → Forest → (start : ℕ) → Path → List ℕ
kid_items_by topdown g is_whole t start p = map (λ n. start + items_before_by is_whole t n) (all_kids g t p)
kid_items_by bottomup g is_whole t start p =
    reverse
    (map (λ n. start + (length (first_nodes_by is_whole t) - 1 - items_before_by is_whole t n)) (all_kids g t p))
kid_items_by inorder g is_whole t start p = []

-- and none where the node's tree is one item
abbrev pub items_below_by : PassKind → AttributeGrammar → (is_whole : Path → Bool) → Forest → (start : ℕ) → Path
    → List ℕ
items_below_by kind g is_whole t start p = if is_whole p then [] else kid_items_by kind g is_whole t start p

-- the number of the item that begins at a node's parent, if there is one
abbrev pub item_above_by : PassKind → (is_whole : Path → Bool) → Forest → (start : ℕ) → Path → List ℕ
item_above_by kind is_whole t start top = []
item_above_by kind is_whole t start (down child kid above) = (start + place_by kind is_whole t above) ∷ []

-- the numbers of the items that the one at this node hands on to: in a topdown pass those of its kids, in a bottomup
-- pass that of its parent
abbrev pub next_numbers_by : PassKind → AttributeGrammar → (is_whole : Path → Bool) → Forest → (start : ℕ) → Path
    → List ℕ
next_numbers_by topdown g is_whole t start p = items_below_by topdown g is_whole t start p
next_numbers_by bottomup g is_whole t start p = item_above_by bottomup is_whole t start p
next_numbers_by inorder g is_whole t start p = []

-- the numbers of those that hand on to it
abbrev pub predecessor_numbers_by : PassKind → AttributeGrammar → (is_whole : Path → Bool) → Forest → (start : ℕ) → Path
    → List ℕ
predecessor_numbers_by topdown g is_whole t start p = item_above_by topdown is_whole t start p
predecessor_numbers_by bottomup g is_whole t start p = items_below_by bottomup g is_whole t start p
predecessor_numbers_by inorder g is_whole t start p = []

-- ---- where small trees are one item

-- the nodes at which items of a topdown pass begin
abbrev pub first_nodes : Forest → (grain : ℕ) → List Path
first_nodes t grain = first_nodes_by (is_small t grain) t

-- how many items of a topdown pass begin at the first so many nodes, in preorder
abbrev pub items_before : Forest → (grain nodes : ℕ) → ℕ
items_before t grain n = items_before_by (is_small t grain) t n

-- the place in its pass of the item that begins at a node
abbrev pub place_in_pass : PassKind → Forest → (grain : ℕ) → Path → ℕ
place_in_pass kind t grain p = place_by kind (is_small t grain) t p

-- how many items the passes before this one have
abbrev pub start_of_pass : List Pass → Forest → (grain pass : ℕ) → ℕ
start_of_pass passes t grain m = start_by (cut_of passes t grain) t m

-- the numbers of the items that begin at a node's kids, and none where the node's tree is small
abbrev pub items_below : PassKind → AttributeGrammar → Forest → (grain start : ℕ) → Path → List ℕ
items_below kind g t grain start p = items_below_by kind g (is_small t grain) t start p

-- the number of the item that begins at a node's parent, if there is one
abbrev pub item_above : PassKind → Forest → (grain start : ℕ) → Path → List ℕ
item_above kind t grain start p = item_above_by kind (is_small t grain) t start p

-- the numbers of the items that the one at this node hands on to
abbrev pub next_numbers : PassKind → AttributeGrammar → Forest → (grain start : ℕ) → Path → List ℕ
next_numbers kind g t grain start p = next_numbers_by kind g (is_small t grain) t start p

-- the numbers of those that hand on to it
abbrev pub predecessor_numbers : PassKind → AttributeGrammar → Forest → (grain start : ℕ) → Path → List ℕ
predecessor_numbers kind g t grain start p = predecessor_numbers_by kind g (is_small t grain) t start p
