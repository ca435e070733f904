use Rattle.std.proofs.Common.{ℕ, ◌+◌, ◌/◌, ap, length, ◌∙◌, arith}
use Rattle.std.proofs.Math.Nat.{lt-mul-div-succ}
use Rattle.ftl_cursors.specs.items.StageItems.{hosts_in, passes_in, tree_of}
use Rattle.ftl_items.specs.solution.Solution.{solution}
use Rattle.ftl_items.specs.stage_items.Cut.{PassCut}
use Rattle.ftl_cells.specs.declared.work_phases.phase.Phases.{Phases}
use Rattle.ftl_nests.specs.NestItems.{nest_form, pass_count}
use Rattle.ftl_nests.proofs.NestForms.{kind_at, nests_are_forms, place}
use Rattle.ftl_plan.specs.phases.StagePhases.{FitItems, grammar_of_items, phases_to}
use Rattle.ftl_plan.proofs.phases.OfKinds.{count_tells, cuts_tell}
use Rattle.ftl_plan.proofs.phases.Taken.{can_take, only_some, place_above}
use Rattle.ftl_plan.proofs.phases.stage.stage_phases.Goals as goal

pub returns : goal.returns
returns c =
    let items = c.args.items in
    let grain = items.rows.now.grain in
    let g = grammar_of_items items in
    let t = tree_of items in
    let cells = c.instance_count-cells.result in
    let phases : Phases = record {
      phases = c.in_ok-phases.field-0.phases;
      ranges = c.args.ranges;
      size = cells / c.args.ranges + 1;
    } in
    let more = lt-mul-div-succ cells c.requires.some in
    let all = c.instance_count-cells.ensures.count in
    let taken : FitItems items phases =
    λ s stage max_stack can kinds hosts.
    can_take g t can.law can.is_tree (pass_count s stage) (nest_form g s t grain stage)
    (kind_at g s t can.law can.ordered can.no_inorder can.is_tree grain stage)
    (place g s t can.law can.ordered can.no_inorder can.is_tree grain stage)
    (nests_are_forms g s t can.law can.ordered can.no_inorder can.is_tree grain stage)
    (place_above g s t) (solution g t) 1048576 max_stack phases
    (c.in_ok-phases.ensures.phases
    ∙ ap (λ (cuts : ℕ → PassCut). phases_to g cuts t phases.size (length (passes_in items)))
    (cuts_tell g s t grain stage (passes_in items) (hosts_in items) kinds hosts)
    ∙ ap (phases_to g (λ m. (nest_form g s t grain stage m).cut) t phases.size)
    (count_tells g s t grain stage (passes_in items) (hosts_in items) kinds hosts))
    (omega arith) (omega (arith, more, all)) in
    record { phases = only_some (FitItems items) phases taken }
