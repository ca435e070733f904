-- What a work answers is what it means.
use Rattle.std.proofs.Common.{◌≡◌, ℕ, ◌<◌, ◌≤◌, true, false, ltb, ltb-true, ltb-false, refl, sym, ◌∙◌, ap, subst, arith, List, get_or, length, map}
use Rattle.std.proofs.lemmas.List.{ext_get_or, get_or-map, get_or_past, length-map}
use Rattle.std.proofs.lemmas.List.Elements.{Contains-get_or}
use Rattle.std.proofs.lemmas.List.FromFn.{get_or-map-range_with_len, length-map-range_with_len}
use Rattle.std.proofs.lemmas.Simd.{map-map}
use mathlib.Core.Path.{fun_ext}
use Rattle.ftl_base.specs.Widths.{greatest_of_width}
use Rattle.ftl_cells.specs.shared.Shape.{HasStep, WorkShape, listed, listing}
use Rattle.ftl_cells.specs.shared.Work.{Meaning, IsStepOfItem, cell_total, item_total, kind_at, next_at, next_total, pred_total, read_total, reads_of_step, solution_at, step_total, target_of as cell_of}
use Rattle.ftl_cells.proofs.shared.Shapes.{cell_total-listed, has_step, item_below, item_total-listed, kind_at-listed, next_at-listed, next_total-listed, pred_total-listed, read_total-listed, reads_of_step-listed, solution_at-listed, step_total-listed, target_of-listed}
use Rattle.ftl_deps.specs.reads.Meant.{meant}
use Rattle.ftl_step_value.specs.limits.reads.ReadTables.{AreTables, IsSound}
use Rattle.ftl_cursors.specs.item_cursor.ItemSteps.{AreStepsOf, no_step}
use Rattle.ftl_cursors.specs.items.StageItems.{cuts_in, hosts_in, items_in, passes_in}
use Rattle.ftl_host_cursors.specs.NestTables.{IsNestCursorOf, nest_steps_left, nesting_passes, own_pass}
use Rattle.ftl_host_cursors.specs.declared.nest_cursor.NestCursor.{NestCursor}
use Rattle.ftl_host_cursors.proofs.StageCuts as stage_cuts
use Rattle.ftl_nests.specs.NestItems.{nest_work}
use Rattle.ftl_nests.specs.Nests.{NestingSchedule, outer_schedule}
use Rattle.ftl_items.specs.stage_items.Items.{Item, cuts_of, item_steps, items_by, kinds_of, nexts, nexts_by, no_item, predecessors, predecessors_by}
use Rattle.ftl_items.specs.stage_items.Cut.{PassCut}
use Rattle.ftl_items.specs.stage_items.StageWork.{form_items, form_reads_at, kind_of, no_instance}
use Rattle.ftl_model.specs.layout.AttributeGrammar.{AttributeGrammar}
use Rattle.ftl_model.specs.layout.Table.{SolvesList, instance_count, instance_number, instances, value_in}
use Rattle.ftl_model.specs.layout.Tree.{Forest}
use Rattle.ftl_model.specs.layout.Values.{Value, overflow}
use Rattle.ftl_order.specs.orders.Reads.{reads_of}
use Rattle.ftl_items.specs.solution.Solution.{solution}
use Rattle.ftl_step_value.specs.cells.ReadCells.{filled_cell, read_cells}
use Rattle.ftl_step_value.proofs.cells.StepRules.{target_there}
use Rattle.ftl_step_value.specs.neighbours.NeighbourParts.{AreNeighbourParts}
use Rattle.ftl_step_value.specs.declared.forms.found.FormStep.{FormStep}
use Rattle.ftl_step_value.specs.declared.forms.found_fold.FoundFold.{FoundFold}
use Rattle.ftl_step_value.specs.forms.FoldForms.{folded}
use Rattle.ftl_step_value.specs.forms.FoundFolds.{IsFoldOf}
use Rattle.ftl_step_value.specs.forms.FoundForms.{IsFormOf}
use Rattle.ftl_step_value.specs.forms.RuleForms.{AreForms}
use Rattle.ftl_step_value.specs.forms.StepForms.{form_value}
use Rattle.ftl_step_value.specs.value.StepValue.{value_of_step}
use Rattle.ftl_order.specs.steps.Steps.{IsStepOf, target_of}
use Rattle.ftl_order.specs.declared.steps.step.Step.{Step}
use Rattle.ftl_tree.specs.trees.CheckedTree.{CheckedTree}
use Rattle.ftl_plan.specs.plans.StageParts.{IsStage, IsStepAt, StageView, checked_tree_of, count_of, forms_of, grain_of, grammar_of, meaning_at, meaning_of, schedule_of, steps_of, tree_of}
use Rattle.ftl_plan.specs.declared.plans.parts.StageParts.{StageParts}

-- a function of the entries of a list
listed_map : {X Y : Type 0} (f : X → Y) (xs : List X) (d : X) (e : Y)
    → listing (λ i. f (get_or xs i d)) (length xs) ≡ map f xs
listed_map f xs d e =
    let long = length-map-range_with_len (λ i. f (get_or xs i d)) 0 (length xs) in
    ext_get_or e (listing (λ i. f (get_or xs i d)) (length xs)) (map f xs)
    (long ∙ sym (length-map xs f))
    (λ i below.
    let within : i < length xs = omega (arith, below, long) in
    get_or-map-range_with_len (λ k. f (get_or xs k d)) 0 (length xs) i i e within (omega arith)
    ∙ sym (get_or-map f xs i d e within))

-- the work of a stage, by functions
abbrev pub shape_of : StageParts → WorkShape
shape_of w =
    nest_work (grammar_of w) (schedule_of w) (tree_of w) (grain_of w) w.stage (solution (grammar_of w) (tree_of w))
    1048576 w.programs.now.max_stack

-- the limits are those that the stage is known by
pub most_reads : (v : StageView) → (meaning_at v).max_reads ≡ 1048576
unfolding listed
most_reads v = refl

pub most_stack : (v : StageView) → (meaning_at v).max_stack ≡ v.max_stack
unfolding listed
most_stack v = refl

module _ (w : StageParts) (fit : IsStage w) where
  abbrev g : AttributeGrammar
  g = grammar_of w

  abbrev s : NestingSchedule
  s = schedule_of w

  abbrev t : Forest
  t = tree_of w

  abbrev m : Meaning
  m = meaning_of w

  -- how many passes there are
  pub count_is_of : length (passes_in w.item_tables.own.items) ≡ count_of w
  count_is_of = ap length fit.passes.passes ∙ length-map (nesting_passes s w.stage) own_pass

  pub few_passes : count_of w ≤ 2048
  few_passes =
      let same = count_is_of in
      let few = w.item_tables.own.items.fit.few in
      omega (arith, same, few)

  -- ---- the tree, where it is asked for

  module _ (u : CheckedTree) (same : u ≡ w.item_tables.own.items.rows.now.tree.now) where
    pub sound_there : IsSound (meant u.checked)
    sound_there = subst (λ (v : CheckedTree). IsSound (meant v.checked)) (sym same) fit.sound

    pub tables_there : AreTables (meant u.checked) w.read_tables.now
    tables_there =
        subst (λ (v : CheckedTree). AreTables (meant v.checked) w.read_tables.now) (sym same) fit.tables_are

    pub forms_there : AreForms u.checked w.forms.now
    forms_there = subst (λ (v : CheckedTree). AreForms v.checked w.forms.now) (sym same) fit.forms

    pub neighbours_there : AreNeighbourParts u.checked w.neighbours.now
    neighbours_there = subst (λ (v : CheckedTree). AreNeighbourParts v.checked w.neighbours.now) (sym same) fit.neighbours

    pub step_there : (x : Step) → IsStepOf g t x → IsStepOf (meant u.checked) u.tree x
    step_there x is = subst (λ (v : CheckedTree). IsStepOf (meant v.checked) v.tree x) (sym same) is

  -- ---- items and cells

  -- how they are cut
  cuts_are : cuts_in w.item_tables.own.items ≡ cuts_of (forms_of w)
  cuts_are =
      stage_cuts.cuts_are g s t (grain_of w) w.stage (passes_in w.item_tables.own.items)
      (hosts_in w.item_tables.own.items) fit.passes.passes fit.passes.hosts

  -- the items of the stage
  abbrev these : List Item
  these = form_items g t (count_of w) (forms_of w)

  pub items_same : items_in w.item_tables.own.items ≡ these
  items_same =
      ap (λ n. items_by n (cuts_in w.item_tables.own.items) t) count_is_of
      ∙ ap (λ (cuts : ℕ → PassCut). items_by (count_of w) cuts t) cuts_are

  pub items_are : length (items_in w.item_tables.own.items) ≡ item_total m
  items_are = ap (λ (ys : List Item). length ys) items_same ∙ sym (item_total-listed (shape_of w))

  pub item_known : (i : ℕ) → i < item_total m → i < length (items_in w.item_tables.own.items)
  item_known i below = subst (λ n. i < n) (sym items_are) below

  pub cells_are : instance_count g t ≡ cell_total m
  cells_are = sym (cell_total-listed (shape_of w))

  pub cell_known : (c : ℕ) → c < cell_total m → c < instance_count g t
  cell_known c below = subst (λ n. c < n) (sym cells_are) below

  pub kind_is : (c : ℕ) → c < cell_total m
      → kind_of g (outer_schedule s) w.stage (get_or (instances g t) c no_instance) ≡ kind_at m c
  kind_is c below = sym (kind_at-listed (shape_of w) c (cell_known c below))

  pub preds_are : (i : ℕ) → i < item_total m
      → length (predecessors (passes_in w.item_tables.own.items) (items_in w.item_tables.own.items) i) ≡ pred_total m i
  preds_are i below =
      ap (λ (ys : List Item). length (predecessors (passes_in w.item_tables.own.items) ys i)) items_same
      ∙ ap (λ (cuts : ℕ → PassCut). length (predecessors_by (kinds_of cuts) these i)) cuts_are
      ∙ sym (pred_total-listed (shape_of w) i (item_below (shape_of w) i below))

  pub nexts_are : (i : ℕ) → i < item_total m
      → length (nexts (passes_in w.item_tables.own.items) (items_in w.item_tables.own.items) i) ≡ next_total m i
  nexts_are i below =
      ap (λ (ys : List Item). length (nexts (passes_in w.item_tables.own.items) ys i)) items_same
      ∙ ap (λ (cuts : ℕ → PassCut). length (nexts_by (kinds_of cuts) these i)) cuts_are
      ∙ sym (next_total-listed (shape_of w) i (item_below (shape_of w) i below))

  pub place_known : (i k : ℕ) → i < item_total m → k < next_total m i
      → k < length (nexts (passes_in w.item_tables.own.items) (items_in w.item_tables.own.items) i)
  place_known i k below place = subst (λ n. k < n) (sym (nexts_are i below)) place

  pub next_is : (i k : ℕ) → i < item_total m → k < next_total m i
      → get_or (nexts (passes_in w.item_tables.own.items) (items_in w.item_tables.own.items) i) k 0 ≡ next_at m i k
  next_is i k below place =
      let known = item_below (shape_of w) i below in
      ap (λ (ys : List Item). get_or (nexts (passes_in w.item_tables.own.items) ys i) k 0) items_same
      ∙ ap (λ (cuts : ℕ → PassCut). get_or (nexts_by (kinds_of cuts) these i) k 0) cuts_are
      ∙ sym
      (next_at-listed (shape_of w) i k known (subst (λ n. k < n) (next_total-listed (shape_of w) i known) place))

  -- ---- steps

  pub steps_are : (i : ℕ) (cursor : NestCursor) → IsNestCursorOf w.item_tables i cursor
      → AreStepsOf g t (steps_of w i) (nest_steps_left cursor)
  steps_are i cursor is =
      subst
      (λ (ys : List Item). AreStepsOf g t (item_steps (forms_of w) t (get_or ys i no_item)) (nest_steps_left cursor))
      items_same (is s w.stage fit.can.ordered.once fit.passes)

  pub count_is : (i : ℕ) (xs : List Step) → i < item_total m → AreStepsOf g t (steps_of w i) xs
      → length xs ≡ step_total m i
  count_is i xs below are =
      sym (length-map xs (target_of g t))
      ∙ ap length are.targets
      ∙ sym (step_total-listed (shape_of w) i (item_below (shape_of w) i below))

  pub step_known : (i j : ℕ) (xs : List Step) → IsStepOfItem m i j → AreStepsOf g t (steps_of w i) xs → j < length xs
  step_known i j xs is are = subst (λ n. j < n) (sym (count_is i xs is.item are)) is.step

  pub step_is : (i j : ℕ) (xs : List Step) → IsStepOfItem m i j → AreStepsOf g t (steps_of w i) xs
      → IsStepAt w i j (get_or xs j no_step)
  step_is i j xs is are =
      let within = step_known i j xs is are in
      record {
        is_step = are.steps_are (get_or xs j no_step) (Contains-get_or xs j no_step within);
        target =
            sym (get_or-map (target_of g t) xs j no_step no_instance within)
            ∙ ap (λ ys. get_or ys j no_instance) are.targets;
      }

  module _ (i j : ℕ) (x : Step) (is : IsStepOfItem m i j) (at : IsStepAt w i j x) where
    has : HasStep (shape_of w) i j
    has = has_step (shape_of w) i j is

    pub target_is : filled_cell g t x ≡ cell_of m i j
    target_is = ap (instance_number g t) at.target ∙ sym (target_of-listed (shape_of w) i j has)

    pub read_total_is : length (reads_of g t (target_of g t x)) ≡ read_total m i j
    read_total_is = ap (λ y. length (reads_of g t y)) at.target ∙ sym (read_total-listed (shape_of w) i j has)

    pub reads_are : read_cells g t x ≡ reads_of_step m i j
    reads_are =
        ap (λ y. map (instance_number g t) (reads_of g t y)) at.target
        ∙ sym
        (listed_map (instance_number g t) (form_reads_at g t (count_of w) (forms_of w) i j) no_instance 0)
        ∙ sym (reads_of_step-listed (shape_of w) i j has)

    pub read_known : (k : ℕ) → k < read_total m i j → k < length (read_cells g t x)
    read_known k below = subst (λ n. k < n) (sym (ap length reads_are)) below

  -- ---- values

  past_end : (c : ℕ) → instance_count g t ≤ c → solution_at m c ≡ overflow
  unfolding solution_at listed
  past_end c past =
      get_or_past (listing (shape_of w).value (instance_count g t)) c overflow
      (let n = length-map-range_with_len (shape_of w).value 0 (instance_count g t) in omega (arith, n, past))

  pub solution_is : SolvesList g t (solution g t) → (c : ℕ)
      → solution_at m c ≡ get_or (solution g t) c overflow
  solution_is solves c =
      elim (ltb c (instance_count g t)) as
      (λ b. (ltb c (instance_count g t) ≡ b) → solution_at m c ≡ get_or (solution g t) c overflow) [
        | true ↦ λ e. solution_at-listed (shape_of w) c (ltb-true c (instance_count g t) e)
        | false ↦ λ e.
            let past = ltb-false c (instance_count g t) e in
            past_end c past
            ∙ sym (get_or_past (solution g t) c overflow (let n = solves.count in omega (arith, n, past)))
      ]
      refl

  module _ (solves : SolvesList g t (solution g t)) (x : Step) (is : IsStepOf g t x) where
    pub values_are :
        map (solution_at m) (read_cells g t x) ≡ map (value_in g t (solution g t)) (reads_of g t (target_of g t x))
    values_are =
        ap (λ f. map f (read_cells g t x)) (fun_ext (solution_is solves))
        ∙ map-map (λ c. get_or (solution g t) c overflow) (instance_number g t) (reads_of g t (target_of g t x))

    pub value_is : value_of_step g t (value_in g t (solution g t)) x ≡ solution_at m (filled_cell g t x)
    value_is =
        sym (solves.solves (target_of g t x) (target_there g fit.sound.law t fit.can.is_tree x is))
        ∙ sym (solution_is solves (filled_cell g t x))

    -- what the form of the step computes from the solution's values is the solution's value
    pub formed_is : (f : FormStep) → IsFormOf (checked_tree_of w) x f → (vs : List Value)
        → vs ≡ map (solution_at m) (read_cells g t x)
        → form_value (greatest_of_width (checked_tree_of w).checked.width) f.form.now vs
        ≡ solution_at m (filled_cell g t x)
    formed_is f form vs are =
        sym (form.value (value_in g t (solution g t)) vs (sym (are ∙ values_are))) ∙ value_is

    -- so is what a fold makes of them
    pub folded_is : (f : FoundFold) → IsFoldOf (checked_tree_of w) x f → (vs : List Value)
        → vs ≡ map (solution_at m) (read_cells g t x)
        → folded (greatest_of_width (checked_tree_of w).checked.width) f.form.step f.form.start vs
        ≡ solution_at m (filled_cell g t x)
    folded_is f fold vs are =
        sym (fold.value (value_in g t (solution g t)) vs (sym (are ∙ values_are))) ∙ value_is
