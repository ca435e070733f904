-- What the steps of the items of a stage are told by, where passes may nest others, and which steps these are.
use Rattle.std.specs.Prelude.{◌≡◌, ℕ, List, [], length, map, Option, None, Some, slice_index_or}
use Rattle.std.specs.List.{All}
use Rattle.ftl_model.specs.layout.AttributeGrammar.{AttributeGrammar}
use Rattle.ftl_order.specs.declared.steps.step.Step.{Step}
use Rattle.ftl_order.specs.orders.Schedule as order
use Rattle.ftl_order.specs.orders.Schedule.{EachStandsOnce, inorder}
use Rattle.ftl_schedule.specs.declared.stages.types.Pass.{Pass}
use Rattle.ftl_schedule.specs.stages.Stages.{pass_of}
use Rattle.ftl_items.specs.stage_items.Items.{item_steps}
use Rattle.ftl_nests.specs.NestItems.{nest_form}
use Rattle.ftl_nests.specs.Nests.{Nest, NestingPass, NestingSchedule, host_of, inner_stages, outer_schedule}
use Rattle.ftl_cursors.specs.item_cursor.ItemSteps.{AreItemTables, AreStepsOf, forest_in, grammar_in, steps_left}
use Rattle.ftl_cursors.specs.items.StageItems.{hosts_in, item_in, pass_numbered, passes_in}
use Rattle.ftl_cursors.specs.stages.PassTables.{ArePassTables}
use Rattle.ftl_cursors.specs.declared.items.view.FoundItem.{FoundItem}
use Rattle.ftl_host_cursors.specs.HostLaws.{passes_in_order}
use Rattle.ftl_host_cursors.specs.HostPlaces.{AreHostTables}
use Rattle.ftl_host_cursors.specs.declared.nest_cursor.NestCursor.{NestCursor}
use Rattle.ftl_host_cursors.specs.declared.nest_cursor.NestCursor.TheVariants.{Hosted, Plain, Sparse}
use Rattle.ftl_host_cursors.specs.declared.nest_rows.NestRows.{NestRows}
use Rattle.ftl_host_cursors.specs.declared.tables.HostTables.{HostTables}
use Rattle.ftl_host_cursors.specs.declared.tables.NestTables.{NestTables}

-- the rows are of this host class and of these inner passes
pub record AreNestRows (g : AttributeGrammar) (host : ℕ) (passes : List Pass) (rows : NestRows) : Type 0 where
  pub host_is : rows.host ≡ host
  pub passes_are : rows.passes.items ≡ passes
  pub tables : ArePassTables g rows.passes.items rows.tables

-- what is kept of a nest has the tables of its inner passes
abbrev pub HasTables : AttributeGrammar → Option NestRows → Type 0
HasTables g None = Unit {0}
HasTables g (Some rows) = ArePassTables g rows.passes.items rows.tables

-- the tables are those of the passes and of what each nests; an inorder pass nests nothing
pub record AreNestTables (x : NestTables) : Type 0 where
  pub own : AreItemTables x.own
  pub count : length x.nests.now ≡ length x.own.items.passes.now
  pub tables : All (HasTables (grammar_in x.own)) x.nests.now
  pub inorder_has_none : (m : ℕ) → (pass_numbered x.own.items m).kind ≡ inorder → slice_index_or x.nests.now m None ≡ None

-- these are the tables of an item that was found, whose pass nests others
pub record AreHostTablesOf (x : NestTables) (found : FoundItem) (nest : NestRows) (y : HostTables) : Type 0 where
  pub are : AreHostTables y
  pub tree : y.tree.now ≡ x.own.items.rows.now.tree.now
  pub pass : (d : Pass) → y.pass.now ≡ slice_index_or x.own.items.passes.now found.pass d
  pub host : y.host ≡ Some nest.host
  pub inner : y.inner.now ≡ nest.passes.items

-- the steps that are left
abbrev pub nest_steps_left : NestCursor → List Step
nest_steps_left (Plain steps) = steps_left steps
nest_steps_left (Sparse steps) = steps
nest_steps_left (Hosted steps) = steps

-- ---- in a schedule with nests

-- what a pass nests: the host class, and the inner passes, stage by stage
pub record NestMeaning : Type 0 where
  pub host : Option ℕ
  pub inner : List order.Pass

-- that of a nest
abbrev pub nest_meaning : Option Nest → NestMeaning
nest_meaning nest = record { host = host_of nest; inner = passes_in_order (inner_stages nest) }

-- that of what is kept
abbrev pub kept_meaning : Option NestRows → NestMeaning
kept_meaning None = record { host = None; inner = [] }
kept_meaning (Some rows) = record { host = Some rows.host; inner = map pass_of rows.passes.items }

-- a pass without what it nests
abbrev pub own_pass : NestingPass → order.Pass
own_pass pass = record { kind = pass.kind; attributes = pass.attributes }

-- the passes of a stage
abbrev pub nesting_passes : NestingSchedule → (stage : ℕ) → List NestingPass
nesting_passes s stage = slice_index_or s stage []

-- the stage of the schedule has these passes, host classes and nests
pub record AreOfStage (x : NestTables) (s : NestingSchedule) (stage : ℕ) : Type 0 where
  pub passes : passes_in x.own.items ≡ map own_pass (nesting_passes s stage)
  pub hosts : hosts_in x.own.items ≡ map (λ (p : NestingPass). host_of p.nest) (nesting_passes s stage)
  pub nests : map kept_meaning x.nests.now ≡ map (λ (p : NestingPass). nest_meaning p.nest) (nesting_passes s stage)

-- what is left are the steps of the item of this number, in each such stage of a schedule that has each computed
-- attribute once
abbrev pub IsNestCursorOf : NestTables → (item : ℕ) → NestCursor → Type 0
IsNestCursorOf x i cursor =
    (s : NestingSchedule) (stage : ℕ) → EachStandsOnce (grammar_in x.own) (outer_schedule s) → AreOfStage x s stage
    → AreStepsOf (grammar_in x.own) (forest_in x.own)
    (item_steps (nest_form (grammar_in x.own) s (forest_in x.own) x.own.items.rows.now.grain stage) (forest_in x.own)
    (item_in x.own.items i)) (nest_steps_left cursor)
