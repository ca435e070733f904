-- What the steps of visits are: steps of the tree, whose instances are those of the items of a stage.
use Rattle.std.specs.Prelude.{◌≡◌, ◌≢◌, ℕ, ◌<◌, List, flat_map, map, Contains}
use Rattle.std.specs.List.{range_with_len}
use Rattle.ftl_items.specs.stage_items.Cut.{subtree}
use Rattle.ftl_items.specs.stage_items.Visits.{visit}
use Rattle.ftl_model.specs.layout.AttributeGrammar.{AttributeGrammar}
use Rattle.ftl_model.specs.layout.Path.{Has, Path, node_at, number_of, size_at}
use Rattle.ftl_model.specs.layout.Tree.{Forest, size}
use Rattle.ftl_model.specs.layout.TreeOf.{IsTreeOf}
use Rattle.ftl_order.specs.orders.Lawful.{IsLawful}
use Rattle.ftl_schedule.specs.declared.syntax.kind.PassKind.{PassKind}
use Rattle.ftl_schedule.specs.declared.syntax.kind.PassKind.TheVariants.{InOrder}
use Rattle.ftl_order.specs.steps.Steps.{IsStepOf, target_of}
use Rattle.ftl_order.specs.declared.steps.step.Step.{Step}
use Rattle.ftl_visit.specs.passes.VisitRows.{visits_of}
use Rattle.ftl_cursors.specs.visits.VisitSteps.{AreVisits, steps_of_nodes}

-- of each lawful grammar, and each kind of pass but inorder with its list of attributes
abbrev pub OfVisits : (AttributeGrammar → PassKind → (attributes : List ℕ) → Type 0) → Type 0
OfVisits P =
    (g : AttributeGrammar) → IsLawful g → (kind : PassKind) → kind ≢ InOrder → (attributes : List ℕ)
    → P g kind attributes

-- the visits are those of classes
abbrev pub VisitsAreOfClasses : AttributeGrammar → PassKind → (attributes : List ℕ) → Type 0
VisitsAreOfClasses g kind attributes = AreVisits g (visits_of g kind attributes)

-- of each tree of a grammar, and each list of its nodes
abbrev pub OfNodes : AttributeGrammar → (Forest → (nodes : List ℕ) → Type 0) → Type 0
OfNodes g P =
    (t : Forest) → IsTreeOf g t → (nodes : List ℕ) → ((n : ℕ) → Contains nodes n → n < size t) → P t nodes

-- the steps of their visits are steps of the tree
abbrev pub StepsAreSteps : AttributeGrammar → PassKind → (attributes : List ℕ) → Type 0
StepsAreSteps g kind attributes =
    OfNodes g (λ t nodes. (x : Step) → Contains (steps_of_nodes g t (visits_of g kind attributes) nodes) x
    → IsStepOf g t x)

-- and their instances are those that the items of a stage have
abbrev pub TargetsAreTheItems : AttributeGrammar → PassKind → (attributes : List ℕ) → Type 0
TargetsAreTheItems g kind attributes =
    OfNodes g (λ t nodes. map (target_of g t) (steps_of_nodes g t (visits_of g kind attributes) nodes)
    ≡ flat_map (visit g t attributes) (map (node_at t) nodes))

-- the nodes of the tree at a node are so many from its number on
abbrev pub NodesOfSubtrees : Type 0
NodesOfSubtrees =
    (t : Forest) → (p : Path) → Has t p → map (node_at t) (range_with_len (number_of t p) (size_at t p)) ≡ subtree t p
