-- Which phase each item of a stage takes, where its cells are cut into ranges of one size.
use Rattle.std.specs.Prelude.{◌≡◌, ℕ, ◌+◌, ◌*◌, ◌/◌, Bool, nat_le, if◌then◌else◌, List, Option, flat_map, map, sum_by, take}
use Rattle.std.specs.List.{range_with_len}
use Rattle.ftl_deps.specs.reads.Meant.{meant}
use Rattle.ftl_cursors.specs.items.StageItems.{hosts_in, passes_in, tree_of}
use Rattle.ftl_cursors.specs.declared.items.columns.ItemRows.{ItemRows}
use Rattle.ftl_cursors.specs.declared.items.view.StageItems.{StageItems}
use Rattle.ftl_items.specs.stage_items.Cut.{PassCut, tops_by}
use Rattle.ftl_model.specs.layout.AttributeGrammar.{AttributeGrammar}
use Rattle.ftl_model.specs.layout.Path.{Path, number_of, preorder, size_at}
use Rattle.ftl_model.specs.layout.Table.{first_instance, width_at}
use Rattle.ftl_model.specs.layout.Tree.{Forest}
use Rattle.ftl_order.specs.orders.Schedule as order
use Rattle.ftl_order.specs.orders.Schedule.{PassKind, bottomup, inorder, topdown}
use Rattle.ftl_nests.specs.Nests.{NestingPass, NestingSchedule, host_of}
use Rattle.ftl_host_cursors.specs.NestTables.{nesting_passes}
use Rattle.ftl_plan.specs.laws.StageMeanings.{CanBePlanned, stage_meaning}
use Rattle.ftl_cells.specs.work_phases.Phases.{CanTake}
use Rattle.ftl_cells.specs.declared.work_phases.phase.Phase.{Phase}
use Rattle.ftl_cells.specs.declared.work_phases.phase.Phase.TheVariants.{First, Range, Last}
use Rattle.ftl_cells.specs.declared.work_phases.phase.Phases.{Phases}

-- the grammar
abbrev pub grammar_in : ItemRows → AttributeGrammar
grammar_in rows = meant rows.tree.now.checked

-- that of a stage
abbrev pub grammar_of_items : StageItems → AttributeGrammar
grammar_of_items items = meant items.rows.now.tree.now.checked

-- the first cell behind those of the tree at a node
abbrev pub cells_end : AttributeGrammar → Forest → Path → ℕ
cells_end g t p = sum_by (width_at g t) (take (number_of t p + size_at t p) (preorder t))

-- the range in which all cells of the tree at a node lie, or the last phase where they lie in two
abbrev pub range_phase : AttributeGrammar → Forest → (size : ℕ) → Path → Phase
range_phase g t size p =
    if nat_le (cells_end g t p) ((first_instance g t p / size + 1) * size) then Range (first_instance g t p / size)
    else Last

module _ (g : AttributeGrammar) (is_whole : Path → Bool) (t : Forest) (size : ℕ) where
  -- of a tree that is one item its range, and of a node alone another phase
  abbrev pub tree_phase : (alone : Phase) → Path → Phase
  tree_phase alone p = if is_whole p then range_phase g t size p else alone

  -- The phase of the item that begins at a node. A node alone comes before the whole trees below it in a topdown pass,
  -- and behind them in a bottomup pass.
  abbrev pub item_phase : PassKind → Path → Phase
  item_phase topdown p = tree_phase First p
  item_phase bottomup p = tree_phase Last p
  item_phase inorder p = Last

  -- the phases of the items of a pass
  abbrev pub phases_of_pass : PassKind → List Phase
  phases_of_pass kind = map (item_phase kind) (tops_by kind is_whole t)

-- those of the items of the first so many passes
abbrev pub phases_to : AttributeGrammar → (cuts : ℕ → PassCut) → Forest → (size : ℕ) → ℕ → List Phase
phases_to g cuts t size n =
    flat_map (λ m. phases_of_pass g (cuts m).is_whole t size (cuts m).kind) (range_with_len 0 n)

-- the kinds of passes
abbrev pub kinds_in : List order.Pass → List PassKind
kinds_in passes = map (λ (p : order.Pass). p.kind) passes

-- those of a stage
abbrev pub stage_kinds : NestingSchedule → (stage : ℕ) → List PassKind
stage_kinds s stage = map (λ (p : NestingPass). p.kind) (nesting_passes s stage)

-- and the host classes of its passes
abbrev pub stage_hosts : NestingSchedule → (stage : ℕ) → List (Option ℕ)
stage_hosts s stage = map (λ (p : NestingPass). host_of p.nest) (nesting_passes s stage)

-- each stage of a plan of this tree whose passes are of these kinds and have these host classes can take these phases
abbrev pub CanBeTaken : AttributeGrammar → Forest → (grain : ℕ) → List PassKind → List (Option ℕ) → Phases → Type 0
CanBeTaken g t grain kinds hosts phases =
    (s : NestingSchedule) (stage max_stack : ℕ) → CanBePlanned g s t → stage_kinds s stage ≡ kinds
    → stage_hosts s stage ≡ hosts → CanTake (stage_meaning g s t grain stage max_stack) phases

-- so can each stage that has such passes as these items
abbrev pub FitItems : StageItems → Phases → Type 0
FitItems items phases =
    CanBeTaken (grammar_of_items items) (tree_of items) items.rows.now.grain (kinds_in (passes_in items)) (hosts_in items)
    phases
