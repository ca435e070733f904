-- Items that are passed over have no step.
use Rattle.std.proofs.Common.{◌≡◌, ◌≢◌, ℕ, ◌<◌, ◌≤◌, sym, ◌∙◌, ap, List, [], get_or, length, None}
use Rattle.std.specs.Prelude.{bit_and}
use Rattle.ftl_cells.specs.shared.Work.{item_total, step_total}
use Rattle.ftl_cells.proofs.shared.Shapes.{item_below, step_total-listed}
use Rattle.ftl_cursors.specs.classes.ClassSets.{HaveNoneInCommon, block_of}
use Rattle.ftl_cursors.specs.item_cursor.VisitedItems.{HasVisitedIn, ItemsWithoutSteps}
use Rattle.ftl_cursors.specs.items.ItemClasses.{AreItemClasses, set_of}
use Rattle.ftl_cursors.specs.items.StageItems.{item_in, items_in, pass_numbered}
use Rattle.ftl_cursors.specs.declared.items.view.FoundItem.{FoundItem}
use Rattle.ftl_host_cursors.specs.declared.tables.NestTables.{NestTables}
use Rattle.ftl_host_cursors.proofs.StageItems.{outer_is, plain_is}
use Rattle.ftl_items.specs.stage_items.Items.{Item, item_steps, no_item}
use Rattle.ftl_lots.specs.filling.Blocks.{AreIdle, IsPassedOver}
use Rattle.ftl_lots.specs.declared.filling.blocks.ItemBlocks.{ItemBlocks}
use Rattle.ftl_model.specs.layout.Solves.{Instance}
use Rattle.ftl_nests.specs.Nests.{outer_schedule}
use Rattle.ftl_order.specs.orders.Schedule.{inorder}
use Rattle.ftl_plan.specs.plans.StageParts.{IsStage, forms_of, grammar_of, meaning_of, schedule_of, tree_of}
use Rattle.ftl_plan.specs.plans.VisitsAlone.{AreVisitsAlone}
use Rattle.ftl_plan.specs.declared.plans.parts.StageParts.{StageParts}
use Rattle.ftl_plan.proofs.plans.Bridge.{item_known, items_same, shape_of}
use Rattle.ftl_plan.proofs.plans.FoundItems.{found, is_found, pass_known}

module _ (w : StageParts) (fit : IsStage w) (few : length (items_in w.item_tables.own.items) ≤ 2147483648)
    (alone : AreVisitsAlone w.item_tables) (sets : List ℕ) (visited : ℕ) (law : ItemsWithoutSteps)
    (classes : AreItemClasses w.item_tables.own.items sets) (has : HasVisitedIn w.item_tables.own visited) where
  abbrev x : NestTables
  x = w.item_tables

  module _ (i : ℕ) (below : i < length (items_in x.own.items)) where
    abbrev this : Item
    this = item_in x.own.items i

    kind : (pass_numbered x.own.items this.pass).kind ≢ inorder
    kind = (alone this.pass (pass_known x.own.items i below)).kind

    abbrev f : FoundItem
    f = found x.own.items i below fit.can.is_tree kind

    none : get_or x.nests.now this.pass None ≡ None
    none = (alone this.pass (pass_known x.own.items i below)).none

    -- it has no step where its block is passed over
    pub no_steps : HaveNoneInCommon (set_of sets i) visited → item_steps (forms_of w) (tree_of w) this ≡ []
    no_steps passed =
        let is = is_found x.own.items i below fit.can.is_tree kind few in
        sym (plain_is x i f is (schedule_of w) w.stage fit.passes none)
        ∙ law x.own fit.sound.law fit.can.is_tree fit.items.own sets classes visited has i below kind passed
        (outer_schedule (schedule_of w)) w.stage

  -- so the blocks tell which items have none
  pub idle : (b : ItemBlocks) → b.sets.now ≡ sets → b.wanted ≡ visited → AreIdle (meaning_of w) b
  idle b are is i known passed =
      let none : HaveNoneInCommon (set_of sets i) visited =
      ap (λ v. bit_and (get_or sets (block_of i) 0) v) (sym is)
      ∙ ap (λ (ys : List ℕ). bit_and (get_or ys (block_of i) 0) b.wanted) (sym are)
      ∙ passed.none in
      let below = item_known w fit i known in
      step_total-listed (shape_of w) i (item_below (shape_of w) i known)
      ∙ ap (λ (ys : List Item). length (item_steps (forms_of w) (tree_of w) (get_or ys i no_item)))
      (sym (items_same w fit))
      ∙ ap (λ (ys : List Instance). length ys) (no_steps i below none)
