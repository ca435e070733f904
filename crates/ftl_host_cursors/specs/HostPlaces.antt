-- What is left at a place of a cursor: parts of the visit of a node, and nodes.
use Rattle.std.specs.Prelude.{◌≡◌, ◌≢◌, ℕ, suc, ◌+◌, ◌<◌, ◌≤◌, if◌then◌else◌, List, [], ◌∷◌, ◌++◌, length, map, sum_by}
use Rattle.ftl_deps.specs.reads.Meant.{meant}
use Rattle.ftl_model.specs.layout.AttributeGrammar.{AttributeGrammar}
use Rattle.ftl_model.specs.layout.Tree.{Forest, size}
use Rattle.ftl_order.specs.declared.steps.step.Step.{Step}
use Rattle.ftl_order.specs.orders.Lawful.{IsLawful}
use Rattle.ftl_schedule.specs.declared.syntax.kind.PassKind.TheVariants.{InOrder}
use Rattle.ftl_visit.specs.passes.VisitRows.{target_of}
use Rattle.ftl_cursors.specs.declared.item_cursor.cursor.ItemCursor.{ItemCursor}
use Rattle.ftl_cursors.specs.item_cursor.ItemSteps.{steps_left}
use Rattle.ftl_cursors.specs.stages.PassTables.{pass_places, pass_visits}
use Rattle.ftl_cursors.specs.visits.NodeRanges.{nodes_in}
use Rattle.ftl_host_cursors.specs.HostSteps.{host_steps, hosted_steps, inner_steps, own_steps, passes_at}
use Rattle.ftl_host_cursors.specs.declared.nodes.NodesLeft.{NodesLeft}
use Rattle.ftl_host_cursors.specs.declared.place.HostPlace.{HostPlace}
use Rattle.ftl_host_cursors.specs.declared.tables.HostTables.{HostTables}

-- the grammar
abbrev pub grammar_of : HostTables → AttributeGrammar
grammar_of x = meant x.tree.now.checked

-- the tree
abbrev pub tree_of : HostTables → Forest
tree_of x = x.tree.now.tree

-- the visits are those of the passes, the inner ones with the places of their blocks, and the targets those of the rules
pub record AreHostTables (x : HostTables) : Type 0 where
  pub law : IsLawful (grammar_of x)
  pub targets : x.targets.now ≡ map target_of (grammar_of x).rules
  pub kind : x.pass.now.kind ≢ InOrder
  pub visits : x.visits.now ≡ pass_visits (grammar_of x) x.pass.now
  pub inner_visits : x.inner_visits.now ≡ map (pass_visits (grammar_of x)) x.inner.now
  pub inner_places : x.inner_places.now ≡ map (pass_places (grammar_of x)) x.inner.now

-- the steps of the visits of some nodes
abbrev pub steps_in : HostTables → (nodes : List ℕ) → List Step
steps_in x nodes = host_steps (grammar_of x) (tree_of x) x.pass.now x.host x.inner.now nodes

-- the nodes that are left
abbrev pub nodes_left : NodesLeft → List ℕ
nodes_left nodes = nodes_in nodes.order nodes.first nodes.count

-- the node comes first, and the rest has those that come after it
pub record IsFirstLeft (all rest : NodesLeft) (node : ℕ) : Type 0 where
  pub is : nodes_left all ≡ node ∷ nodes_left rest
  pub known : node < all.first + all.count
  pub within : rest.first + rest.count ≤ all.first + all.count

-- all is of the tree, and the visits are those of the passes
pub record IsHostPlace (x : HostTables) (at : HostPlace) : Type 0 where
  pub node : at.node < size (tree_of x)
  pub visits : at.visits.now ≡ map (pass_visits (grammar_of x)) at.passes.now
  pub places : at.places.now ≡ map (pass_places (grammar_of x)) at.passes.now
  pub nodes : at.nodes.first + at.nodes.count ≤ size (tree_of x)

-- the steps of the own list, where it is still to come
abbrev pub own_left : HostTables → HostPlace → List Step
own_left x at = if at.own then own_steps (grammar_of x) (tree_of x) x.pass.now at.node else []

-- the steps of the inner passes that are still to come
abbrev pub inner_left : HostTables → HostPlace → List Step
inner_left x at = inner_steps (grammar_of x) (tree_of x) at.node at.passes.now

-- the steps of the parts and the nodes that are still to come
abbrev pub left_at : HostTables → HostPlace → List Step
left_at x at =
    hosted_steps x.pass.now.kind (own_left x at) (inner_left x at) ++ steps_in x (nodes_left at.nodes)

-- the steps that are left, where these are of the part that was begun
abbrev pub left : HostTables → HostPlace → ItemCursor → List Step
left x at steps = steps_left steps ++ left_at x at

-- how many parts and nodes are left to begin
abbrev pub parts_left : HostTables → HostPlace → ℕ
parts_left x at =
    (if at.own then 1 else 0) + length at.passes.now
    + sum_by (λ n. suc (suc (length (passes_at (tree_of x) x.host x.inner.now n)))) (nodes_left at.nodes)
