-- The steps of the visits of nodes in a pass with a nest: those of the pass's own list, and at a host those of the
-- inner passes over its tree, behind them or before them.
use Rattle.std.specs.Prelude.{ℕ, ◌==◌, ◌&&◌, ◌||◌, Bool, true, false, if◌then◌else◌, List, [], ◌∷◌, ◌++◌, flat_map, length, Option, None, Some}
use Rattle.ftl_model.specs.layout.AttributeGrammar.{AttributeGrammar}
use Rattle.ftl_model.specs.layout.Path.{class_at, node_at, size_at}
use Rattle.ftl_model.specs.layout.Tree.{Forest}
use Rattle.ftl_order.specs.declared.steps.step.Step.{Step}
use Rattle.ftl_schedule.specs.declared.stages.types.Pass.{Pass}
use Rattle.ftl_schedule.specs.declared.syntax.kind.PassKind.{PassKind}
use Rattle.ftl_schedule.specs.declared.syntax.kind.PassKind.TheVariants.{BottomUp, InOrder, TopDown}
use Rattle.ftl_visit.specs.passes.VisitRows.{visits_of}
use Rattle.ftl_cursors.specs.declared.visits.nodes.NodeOrder.TheVariants.{Preorder, Reverse}
use Rattle.ftl_cursors.specs.inorder.InorderSteps.{inorder_steps}
use Rattle.ftl_cursors.specs.stages.PassTables.{pass_visits}
use Rattle.ftl_cursors.specs.visits.NodeRanges.{nodes_in}
use Rattle.ftl_cursors.specs.visits.VisitSteps.{steps_of_nodes}

-- the steps of the pass's own list at a node
abbrev pub own_steps : AttributeGrammar → Forest → Pass → (node : ℕ) → List Step
own_steps g t pass n = steps_of_nodes g t (pass_visits g pass) (n ∷ [])

-- those of a pass of this kind with this list over the tree at a node: in preorder, the other way round, or in sequence
abbrev pub tree_steps : AttributeGrammar → Forest → (node : ℕ) → PassKind → (attributes : List ℕ) → List Step
tree_steps g t n TopDown attributes =
    steps_of_nodes g t (visits_of g TopDown attributes) (nodes_in Preorder n (size_at t (node_at t n)))
tree_steps g t n BottomUp attributes =
    steps_of_nodes g t (visits_of g BottomUp attributes) (nodes_in Reverse n (size_at t (node_at t n)))
tree_steps g t n InOrder attributes = inorder_steps g t attributes (node_at t n)

-- those of an inner pass over the tree at a node
abbrev pub inner_pass_steps : AttributeGrammar → Forest → (node : ℕ) → Pass → List Step
inner_pass_steps g t n pass = tree_steps g t n pass.kind pass.attrs

-- those of inner passes, one pass after the other
abbrev pub inner_steps : AttributeGrammar → Forest → (node : ℕ) → (inner : List Pass) → List Step
inner_steps g t n inner = flat_map (inner_pass_steps g t n) inner

-- in a topdown pass those of the own list come first, else last
abbrev pub hosted_steps : PassKind → (own inner : List Step) → List Step
hosted_steps TopDown own inner = own ++ inner
hosted_steps BottomUp own inner = inner ++ own
hosted_steps InOrder own inner = inner ++ own

-- the node is of the host class
abbrev pub is_host : Forest → (host : Option ℕ) → (node : ℕ) → Bool
is_host t None n = false
is_host t (Some host) n = class_at t (node_at t n) == host

-- the inner passes that run in the visit of a node: none where it is no host
abbrev pub passes_at : Forest → (host : Option ℕ) → (inner : List Pass) → (node : ℕ) → List Pass
passes_at t host inner n = if is_host t host n then inner else []

-- the steps of the visit of a node
abbrev pub visit_steps : AttributeGrammar → Forest → Pass → (host : Option ℕ) → (inner : List Pass) → (node : ℕ)
    → List Step
visit_steps g t pass host inner n =
    hosted_steps pass.kind (own_steps g t pass n) (inner_steps g t n (passes_at t host inner n))

-- those of the visits of some nodes
abbrev pub host_steps : AttributeGrammar → Forest → Pass → (host : Option ℕ) → (inner : List Pass) → (nodes : List ℕ)
    → List Step
host_steps g t pass host inner nodes = flat_map (visit_steps g t pass host inner) nodes

-- a pass of this kind visits a node before its kids
abbrev pub is_topdown : PassKind → Bool
is_topdown TopDown = true
is_topdown BottomUp = false
is_topdown InOrder = false

-- of what is left of a visit, the own list comes next: in a topdown pass at once, else without inner passes
abbrev pub is_own_next : PassKind → (own : Bool) → (inner : List Pass) → Bool
is_own_next kind own inner = own && (is_topdown kind || (length inner == 0))
