-- Which number each item of a stage has, and that it hands on to the items of its node's kids or parent.
use Rattle.std.specs.Prelude.{◌≡◌, ℕ, ◌+◌, ◌<◌, nat_lt, List, length, map, slice_index_or, Contains}
use Rattle.std.specs.List.{range_with_len}
use Rattle.ftl_model.specs.layout.AttributeGrammar.{AttributeGrammar}
use Rattle.ftl_model.specs.layout.Path.{Has, Path, down, number_of, size_at, top}
use Rattle.ftl_model.specs.layout.Tree.{Forest}
use Rattle.ftl_model.specs.layout.TreeOf.{IsTreeOf}
use Rattle.ftl_order.specs.orders.Schedule.{Pass}
use Rattle.ftl_items.specs.stage_items.Cut.{begins, nodes_of, tops}
use Rattle.ftl_items.specs.stage_items.Items.{Item, item, items, nexts, no_item, pass_in, predecessors}
use Rattle.ftl_items.specs.numbers.ItemNumbers.{next_numbers, place_in_pass, predecessor_numbers, start_of_pass}

-- of the passes of a stage, on each tree of a grammar and at each grain
abbrev pub OfPasses : (AttributeGrammar → List Pass → Forest → (grain : ℕ) → Type 0) → Type 0
OfPasses P = (g : AttributeGrammar) (passes : List Pass) (t : Forest) → IsTreeOf g t → (grain : ℕ) → P g passes t grain

-- an item begins at a node other than the root exactly where its parent's tree has more nodes than an item
abbrev pub ItemsBeginBelowLargeTrees : Type 0
ItemsBeginBelowLargeTrees =
    (t : Forest) (grain child kid : ℕ) (p : Path) → Has t (down child kid p)
    → begins t grain (down child kid p) ≡ nat_lt grain (size_at t p)

-- the nodes of an item stand one after another in preorder
abbrev pub ItemsAreRanges : Type 0
ItemsAreRanges =
    (t : Forest) (grain : ℕ) (p : Path) → Has t p
    → map (number_of t) (nodes_of t grain p) ≡ range_with_len (number_of t p) (length (nodes_of t grain p))

-- the items of a pass stand one after another, from its start on
abbrev pub PassesStandInOrder : AttributeGrammar → List Pass → Forest → (grain : ℕ) → Type 0
PassesStandInOrder g passes t grain =
    (m j : ℕ) → m < length passes → j < length (tops (pass_in passes m).kind t grain)
    → (start_of_pass passes t grain m + j < length (items passes t grain))
    × (slice_index_or (items passes t grain) (start_of_pass passes t grain m + j) no_item
    ≡ item m (slice_index_or (tops (pass_in passes m).kind t grain) j top))

-- the item that begins at a node stands at the node's place in the pass
abbrev pub ItemsStandAtTheirPlaces : AttributeGrammar → List Pass → Forest → (grain : ℕ) → Type 0
ItemsStandAtTheirPlaces g passes t grain =
    (m : ℕ) (p : Path) → m < length passes → Contains (tops (pass_in passes m).kind t grain) p
    → (place_in_pass (pass_in passes m).kind t grain p < length (tops (pass_in passes m).kind t grain))
    × (slice_index_or (tops (pass_in passes m).kind t grain) (place_in_pass (pass_in passes m).kind t grain p) top ≡ p)

-- an item of a stage, by its number
abbrev pub item_numbered : List Pass → Forest → (grain number : ℕ) → Item
item_numbered passes t grain i = slice_index_or (items passes t grain) i no_item

-- an item hands on to those of its node's kids, or to that of its parent
abbrev pub NextsAreNumbered : AttributeGrammar → List Pass → Forest → (grain : ℕ) → Type 0
NextsAreNumbered g passes t grain =
    (i : ℕ) → i < length (items passes t grain)
    → nexts passes (items passes t grain) i
    ≡ next_numbers (pass_in passes (item_numbered passes t grain i).pass).kind g t grain
    (start_of_pass passes t grain (item_numbered passes t grain i).pass) (item_numbered passes t grain i).first

-- and these are what hands on to it
abbrev pub PredecessorsAreNumbered : AttributeGrammar → List Pass → Forest → (grain : ℕ) → Type 0
PredecessorsAreNumbered g passes t grain =
    (i : ℕ) → i < length (items passes t grain)
    → predecessors passes (items passes t grain) i
    ≡ predecessor_numbers (pass_in passes (item_numbered passes t grain i).pass).kind g t grain
    (start_of_pass passes t grain (item_numbered passes t grain i).pass) (item_numbered passes t grain i).first
