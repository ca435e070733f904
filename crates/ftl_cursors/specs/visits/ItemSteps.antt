-- The steps of an item of a topdown or bottomup pass, by the range of its nodes.
use Rattle.std.specs.Prelude.{◌≡◌, ℕ, ◌+◌, ◌≤◌, Bool, if◌then◌else◌, List, map}
use Rattle.ftl_items.specs.stage_items.Cut.{is_small}
use Rattle.ftl_items.specs.stage_items.Items.{Item, steps_by}
use Rattle.ftl_model.specs.layout.AttributeGrammar.{AttributeGrammar}
use Rattle.ftl_model.specs.layout.Path.{Has, Path, number_of, size_at}
use Rattle.ftl_model.specs.layout.Solves.{Instance}
use Rattle.ftl_model.specs.layout.Tree.{Forest, size}
use Rattle.ftl_model.specs.layout.TreeOf.{IsTreeOf}
use Rattle.ftl_order.specs.orders.Lawful.{IsLawful}
use Rattle.ftl_order.specs.orders.Schedule.{Schedule, bottomup, topdown}
use Rattle.ftl_schedule.specs.declared.syntax.kind.PassKind.{PassKind}
use Rattle.ftl_schedule.specs.declared.syntax.kind.PassKind.TheVariants.{BottomUp, TopDown}
use Rattle.ftl_order.specs.steps.Steps.{target_of}
use Rattle.ftl_visit.specs.passes.VisitRows.{visits_of}
use Rattle.ftl_cursors.specs.visits.NodeRanges.{nodes_in}
use Rattle.ftl_cursors.specs.visits.VisitSteps.{steps_of_nodes}
use Rattle.ftl_cursors.specs.declared.visits.nodes.NodeOrder.{NodeOrder}
use Rattle.ftl_cursors.specs.declared.visits.nodes.NodeOrder.TheVariants.{Preorder, Reverse}

-- how many nodes the item has that begins at a node
abbrev pub node_count_by : (is_whole : Path → Bool) → Forest → Path → ℕ
node_count_by is_whole t p = if is_whole p then size_at t p else 1

-- the instances of the steps of so many nodes from the first of an item on
abbrev pub targets_by : AttributeGrammar → (is_whole : Path → Bool) → Forest → PassKind → (attributes : List ℕ)
    → NodeOrder → Path → List Instance
targets_by g is_whole t kind attributes order p =
    map (target_of g t)
    (steps_of_nodes g t (visits_of g kind attributes) (nodes_in order (number_of t p) (node_count_by is_whole t p)))

-- how many nodes it has where small trees are one item
abbrev pub node_count : Forest → (grain : ℕ) → Path → ℕ
node_count t grain p = node_count_by (is_small t grain) t p

-- and the instances of their steps
abbrev pub targets_in : AttributeGrammar → Forest → (grain : ℕ) → PassKind → (attributes : List ℕ) → NodeOrder → Path
    → List Instance
targets_in g t grain kind attributes order p = targets_by g (is_small t grain) t kind attributes order p

-- of each item, by the node at which it begins, of each tree of a lawful grammar
abbrev pub OfItems : (AttributeGrammar → Forest → (grain : ℕ) → Item → Type 0) → Type 0
OfItems P =
    (g : AttributeGrammar) (t : Forest) → IsLawful g → IsTreeOf g t → (grain : ℕ) (x : Item) → Has t x.first
    → P g t grain x

-- so many nodes are there
abbrev pub NodesAreThere : AttributeGrammar → Forest → (grain : ℕ) → Item → Type 0
NodesAreThere g t grain x = number_of t x.first + node_count t grain x.first ≤ size t

-- in preorder their steps are those of the item in a topdown pass
abbrev pub TopdownItems : AttributeGrammar → Forest → (grain : ℕ) → Item → Type 0
TopdownItems g t grain x =
    (s : Schedule) (stage : ℕ) (attributes : List ℕ)
    → targets_in g t grain TopDown attributes Preorder x.first ≡ steps_by g s stage t grain topdown attributes x

-- and the other way round in a bottomup pass
abbrev pub BottomupItems : AttributeGrammar → Forest → (grain : ℕ) → Item → Type 0
BottomupItems g t grain x =
    (s : Schedule) (stage : ℕ) (attributes : List ℕ)
    → targets_in g t grain BottomUp attributes Reverse x.first ≡ steps_by g s stage t grain bottomup attributes x
