-- The work of a stage: its cells are the instances of the tree, its items those of the stage.
use Rattle.std.specs.Prelude.{ℕ, nat_lt, ◌==◌, if◌then◌else◌, List, length, slice_index, slice_index_or}
use Rattle.ftl_model.specs.layout.AttributeGrammar.{AttributeGrammar, Sort, inherited, input, local, synthesized}
use Rattle.ftl_model.specs.layout.Path.{top}
use Rattle.ftl_model.specs.layout.Solves.{Instance, instance_of}
use Rattle.ftl_model.specs.layout.Table.{instance_count, instance_number, instances}
use Rattle.ftl_model.specs.layout.Tree.{Forest}
use Rattle.ftl_model.specs.layout.Values.{Value, overflow}
use Rattle.ftl_order.specs.orders.Reads.{reads_of}
use Rattle.ftl_order.specs.orders.Schedule.{Schedule, placing_of}
use Rattle.ftl_cells.specs.shared.Shape.{WorkShape}
use Rattle.ftl_cells.specs.declared.shared.kind.CellKind.{CellKind}
use Rattle.ftl_cells.specs.declared.shared.kind.CellKind.TheVariants.{Given, Target, Later}
use Rattle.ftl_items.specs.stage_items.Items.{Item, PassForm, cuts_of, form_of, item_steps, items, items_by, kinds_of}
use Rattle.ftl_items.specs.stage_items.Items.{nexts_by, no_item, passes_of, predecessors_by, steps_of_item}

-- no instance of a tree
abbrev pub no_instance : Instance
no_instance = instance_of top 0

-- a computed attribute of this stage is given before its stage, a target in it, and empty after it
abbrev pub kind_by_stage : (its stage : ℕ) → CellKind
kind_by_stage its stage = if nat_lt its stage then Given else (if its == stage then Target else Later)

-- the kind of a cell by the sort of its attribute; inputs are always given
abbrev pub kind_by : Sort → (its stage : ℕ) → CellKind
kind_by input its stage = Given
kind_by inherited its stage = kind_by_stage its stage
kind_by synthesized its stage = kind_by_stage its stage
kind_by local its stage = kind_by_stage its stage

-- the kind of an instance's cell
abbrev pub kind_of : AttributeGrammar → Schedule → (stage : ℕ) → Instance → CellKind
kind_of g s stage i = kind_by (g.sort i.attribute) (placing_of s i.attribute).stage stage

-- the work of a stage of so many passes of these forms, whose cells are of these kinds
module _ (g : AttributeGrammar) (t : Forest) (count : ℕ) (forms : ℕ → PassForm) where
  -- the items of the stage
  abbrev pub form_items : List Item
  form_items = items_by count (cuts_of forms) t

  -- the item of this number
  abbrev pub form_item_at : ℕ → Item
  form_item_at i = slice_index_or form_items i no_item

  -- the steps of the item of this number
  abbrev pub form_steps_in : ℕ → List Instance
  form_steps_in i = item_steps forms t (form_item_at i)

  -- a step of an item
  abbrev pub form_step_at : (i j : ℕ) → Instance
  form_step_at i j = slice_index_or (form_steps_in i) j no_instance

  -- what a step reads
  abbrev pub form_reads_at : (i j : ℕ) → List Instance
  form_reads_at i j = reads_of g t (form_step_at i j)

  -- the work, with this solution and these limits
  abbrev pub work_by : (kind_at : Instance → CellKind) → (solution : List Value) → (max_reads max_stack : ℕ)
      → WorkShape
  work_by kind_at solution max_reads max_stack =
      record {
        cells = instance_count g t;
        kind = λ c. kind_at (slice_index_or (instances g t) c no_instance);
        value = λ c. slice_index_or solution c overflow;
        items = length form_items;
        preds = λ i. length (predecessors_by (kinds_of (cuts_of forms)) form_items i);
        next_count = λ i. length (nexts_by (kinds_of (cuts_of forms)) form_items i);
        next = λ i k. slice_index (nexts_by (kinds_of (cuts_of forms)) form_items i) k;
        steps = λ i. length (form_steps_in i);
        target = λ i j. instance_number g t (form_step_at i j);
        read_count = λ i j. length (form_reads_at i j);
        read = λ i j r. instance_number g t (slice_index_or (form_reads_at i j) r no_instance);
        max_reads = max_reads;
        max_stack = max_stack;
      }

module _ (g : AttributeGrammar) (s : Schedule) (t : Forest) (grain stage : ℕ) where
  -- the items of the stage
  abbrev pub stage_items : List Item
  stage_items = items (passes_of s stage) t grain

  -- the item of this number
  abbrev pub item_at : ℕ → Item
  item_at i = slice_index_or stage_items i no_item

  -- the steps of the item of this number
  abbrev pub steps_in : ℕ → List Instance
  steps_in i = steps_of_item g s stage t grain (item_at i)

  -- a step of an item
  abbrev pub step_at : (i j : ℕ) → Instance
  step_at i j = slice_index_or (steps_in i) j no_instance

  -- what a step reads
  abbrev pub reads_at : (i j : ℕ) → List Instance
  reads_at i j = reads_of g t (step_at i j)

  -- the work of the stage, with this solution and these limits
  abbrev pub stage_work : (solution : List Value) → (max_reads max_stack : ℕ) → WorkShape
  stage_work solution max_reads max_stack =
      work_by g t (length (passes_of s stage)) (form_of g s stage t grain) (kind_of g s stage) solution max_reads
      max_stack
