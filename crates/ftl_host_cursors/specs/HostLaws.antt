-- What the steps of visits compute: what the visits and the items of passes with nests have.
use Rattle.std.specs.Prelude.{◌≡◌, ◌≢◌, ℕ, ◌<◌, ◌≤◌, ◌==◌, List, count_by, map, flat_map, Option}
use Rattle.ftl_model.specs.layout.AttributeGrammar.{AttributeGrammar, input}
use Rattle.ftl_model.specs.layout.Path.{Has, Path, node_at, number_of}
use Rattle.ftl_model.specs.layout.Tree.{Forest, size}
use Rattle.ftl_model.specs.layout.TreeOf.{IsTreeOf}
use Rattle.ftl_order.specs.orders.Lawful.{IsLawful}
use Rattle.ftl_order.specs.orders.Schedule as order
use Rattle.ftl_schedule.specs.declared.stages.types.Pass.{Pass}
use Rattle.ftl_schedule.specs.declared.syntax.kind.PassKind.TheVariants.{InOrder}
use Rattle.ftl_schedule.specs.stages.Stages.{kind_of, pass_of}
use Rattle.ftl_items.specs.stage_items.Items.{Item, item_steps}
use Rattle.ftl_nests.specs.NestItems.{is_whole_with, nest_form, visit_with}
use Rattle.ftl_nests.specs.Nests.{Nest, NestingPass, NestingSchedule, host_of, inner_stages, nesting_pass}
use Rattle.ftl_cursors.specs.item_cursor.ItemSteps.{AreStepsOf, order_of}
use Rattle.ftl_cursors.specs.items.RowsCut.{is_whole_in}
use Rattle.ftl_cursors.specs.items.StageItems.{tree_in}
use Rattle.ftl_cursors.specs.declared.items.columns.ItemRows.{ItemRows}
use Rattle.ftl_cursors.specs.visits.ItemSteps.{node_count_by}
use Rattle.ftl_cursors.specs.visits.NodeRanges.{nodes_in}
use Rattle.ftl_host_cursors.specs.HostSteps.{host_steps, visit_steps}

-- the passes of a schedule, stage by stage
abbrev pub passes_in_order : order.Schedule → List order.Pass
passes_in_order s = flat_map (λ stage. stage) s

-- a pass without its nest, the host class of that, and its passes, stage by stage
pub record StandFor (whole : NestingPass) (pass : Pass) (class : Option ℕ) (passes : List Pass) : Type 0 where
  pub kind : kind_of pass.kind ≡ whole.kind
  pub own : pass.attrs ≡ whole.attributes
  pub host : class ≡ host_of whole.nest
  pub inner : map pass_of passes ≡ passes_in_order (inner_stages whole.nest)

-- each computed attribute stands in the lists at most once
abbrev pub StandsAtMostOnce : AttributeGrammar → order.Schedule → Type 0
StandsAtMostOnce g s =
    (a : ℕ) → a < g.attribute_count → g.sort a ≢ input → count_by (λ b. b == a) (order.entries s) ≤ 1

-- of each tree of a lawful grammar, and each topdown or bottomup pass that nests each attribute once
abbrev pub OfNestingPasses :
    (AttributeGrammar → Forest → NestingPass → Pass → (host : Option ℕ) → (inner : List Pass) → Type 0) → Type 0
OfNestingPasses P =
    (g : AttributeGrammar) (t : Forest) → IsLawful g → IsTreeOf g t
    → (whole : NestingPass) (pass : Pass) (host : Option ℕ) (inner : List Pass) → StandFor whole pass host inner
    → pass.kind ≢ InOrder → StandsAtMostOnce g (inner_stages whole.nest) → P g t whole pass host inner

-- the steps of the visit of a node are steps of the tree, and compute its visit with the nest
abbrev pub VisitsAreWithNests : AttributeGrammar → Forest → NestingPass → Pass → (host : Option ℕ)
    → (inner : List Pass) → Type 0
VisitsAreWithNests g t whole pass host inner =
    (node : ℕ) → node < size t
    → AreStepsOf g t (visit_with g t whole.kind whole.attributes whole.nest (node_at t node))
    (visit_steps g t pass host inner node)

-- the steps of an item of a stage that has the pass are those of its nodes, so many from the first on
abbrev pub ItemsAreOfTheForm : AttributeGrammar → Forest → NestingPass → Pass → (host : Option ℕ)
    → (inner : List Pass) → Type 0
ItemsAreOfTheForm g t whole pass host inner =
    (s : NestingSchedule) (grain stage : ℕ) (x : Item) → nesting_pass s stage x.pass ≡ whole → Has t x.first
    → AreStepsOf g t (item_steps (nest_form g s t grain stage) t x)
    (host_steps g t pass host inner
    (nodes_in (order_of pass.kind) (number_of t x.first)
    (node_count_by (is_whole_with whole.nest t grain) t x.first)))

-- rows with the host class of a nest cut as a pass with that nest
abbrev pub RowsCutAsNests : Type 0
RowsCutAsNests =
    (rows : ItemRows) (nest : Option Nest) → rows.host ≡ host_of nest → (p : Path)
    → is_whole_in rows p ≡ is_whole_with nest (tree_in rows) rows.grain p
