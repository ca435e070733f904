-- What is kept of the items of a stage, by the kinds and the host classes of its passes.
use Rattle.std.proofs.Common.{◌≡◌, ℕ, ap, sym, ◌∙◌, subst, List, Option, length}
use Rattle.ftl_deps.specs.reads.Meant.{meant}
use Rattle.ftl_cells.specs.work_phases.Phases.{CanTake}
use Rattle.ftl_cells.specs.declared.work_phases.phase.Phases.{Phases}
use Rattle.ftl_cursors.specs.items.ItemClasses.{AreItemClasses, HaveItemClasses}
use Rattle.ftl_cursors.specs.items.StageItems.{cuts_in, hosts_in, passes_in}
use Rattle.ftl_cursors.specs.declared.items.view.StageItems.{StageItems}
use Rattle.ftl_items.specs.stage_items.Cut.{PassCut}
use Rattle.ftl_order.specs.orders.Schedule as order
use Rattle.ftl_plan.specs.phases.StagePhases.{CanBeTaken, FitItems, kinds_in}
use Rattle.ftl_plan.specs.plans.KindPhases.{HaveClasses, cut_by, hosts_at, kinds_at}
use Rattle.ftl_plan.specs.plans.StageParts.{IsStage, StageView, grain_of, grammar_of, meaning_of, schedule_of, tree_of, view_of}
use Rattle.ftl_plan.specs.declared.plans.parts.StageParts.{StageParts}
use Rattle.ftl_plan.proofs.plans.KeptKinds.{count_tells, cuts_tell, kinds_of_stage}

module _ (w : StageParts) (fit : IsStage w) where
  abbrev items : StageItems
  items = w.item_tables.own.items

  abbrev u : StageView
  u = view_of w

  kinds_are : kinds_in (passes_in items) ≡ kinds_at u
  kinds_are = kinds_of_stage w.item_tables (schedule_of w) w.stage fit.passes

  hosts_are : hosts_in items ≡ hosts_at u
  hosts_are = fit.passes.hosts

  count_at : length (passes_in items) ≡ length (kinds_at u)
  count_at = sym (count_tells (passes_in items)) ∙ ap (λ (ks : List order.PassKind). length ks) kinds_are

  cuts_at : cuts_in items ≡ cut_by (tree_of w) (grain_of w) (kinds_at u) (hosts_at u)
  cuts_at =
      cuts_tell (tree_of w) (grain_of w) (passes_in items) (hosts_in items)
      ∙ ap (λ (ks : List order.PassKind). cut_by (tree_of w) (grain_of w) ks (hosts_in items)) kinds_are
      ∙ ap (λ (hs : List (Option ℕ)). cut_by (tree_of w) (grain_of w) (kinds_at u) hs) hosts_are

  -- the stage can take the phases of its items
  pub takes : (t : Phases) → FitItems items t → CanTake (meaning_of w) t
  takes t fits = fits (schedule_of w) w.stage w.programs.now.max_stack fit.can (sym kinds_are) (sym hosts_are)

  module _ (v : StageView) (same : view_of w ≡ v) where
    -- the phases of the items are those of all stages with such passes
    pub taken_at : (t : Phases) → FitItems items t
        → CanBeTaken (meant v.checked) v.tree v.grain (kinds_at v) (hosts_at v) t
    taken_at t fits =
        subst (λ (e : StageView). CanBeTaken (meant e.checked) e.tree e.grain (kinds_at e) (hosts_at e) t) same
        (subst
        (λ (ks : List order.PassKind). CanBeTaken (grammar_of w) (tree_of w) (grain_of w) ks (hosts_at u) t) kinds_are
        (subst
        (λ (hs : List (Option ℕ)). CanBeTaken (grammar_of w) (tree_of w) (grain_of w) (kinds_in (passes_in items)) hs t)
        hosts_are fits))

    -- so are the classes of their nodes
    pub classes_at : (sets : List ℕ) → AreItemClasses items sets → HaveClasses v (kinds_at v) (hosts_at v) sets
    classes_at sets are =
        subst (λ (e : StageView). HaveClasses e (kinds_at e) (hosts_at e) sets) same
        (subst (λ (n : ℕ). HaveItemClasses n (cut_by (tree_of w) (grain_of w) (kinds_at u) (hosts_at u)) (tree_of w) sets)
        count_at
        (subst (λ (cuts : ℕ → PassCut). HaveItemClasses (length (passes_in items)) cuts (tree_of w) sets) cuts_at are))

    -- and the other way round
    pub classes_here : (sets : List ℕ) → HaveClasses v (kinds_at v) (hosts_at v) sets → AreItemClasses items sets
    classes_here sets have =
        subst (λ (cuts : ℕ → PassCut). HaveItemClasses (length (passes_in items)) cuts (tree_of w) sets) (sym cuts_at)
        (subst (λ (n : ℕ). HaveItemClasses n (cut_by (tree_of w) (grain_of w) (kinds_at u) (hosts_at u)) (tree_of w) sets)
        (sym count_at)
        (subst (λ (e : StageView). HaveClasses e (kinds_at e) (hosts_at e) sets) (sym same) have))
