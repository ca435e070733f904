use Rattle.std.proofs.Common.{arith}
use Rattle.ftl_cursors.proofs.items.Starts.{few_items}
use Rattle.ftl_items.specs.stage_items.Items.{cuts_of}
use Rattle.ftl_items.specs.solution.Solution.{solution}
use Rattle.ftl_nests.specs.Flat.{flat_schedule}
use Rattle.ftl_nests.specs.NestItems.{nest_form, pass_count}
use Rattle.ftl_nests.specs.Nests.{outer_schedule}
use Rattle.ftl_plan.proofs.laws.EndWords.{in_a_stage}
use Rattle.ftl_plan.proofs.laws.InRange.{in_range}
use Rattle.ftl_plan.proofs.laws.Narrow.{narrow}
use Rattle.ftl_plan.proofs.laws.stages.stages_are_lawful.Goals as goal

pub returns : goal.returns
returns c = record {
  narrow = λ g s t can.
      narrow g (outer_schedule s) t can.no_fault (in_a_stage g (outer_schedule s) t can.law can.ordered.once can.is_tree);
  lawful = λ g s t can grain stage max_stack few.
      let flat = c.flat_schedules.ensures.flat g s can.law can.ordered in
      c.nest_stages.ensures.lawful g s t can.law can.ordered can.no_inorder can.is_tree grain stage (solution g t) 1048576
      max_stack
      (record {
        values =
            in_range g (flat_schedule s) t can.law flat can.is_tree (c.values_are_in_range.ensures.in_range g can.law)
            c.reads_end_by_rank.ensures.reads_end
            (c.solution_solves.ensures.ordered g (flat_schedule s) t can.law flat can.is_tree);
        cells = (let cells = can.cells in omega (arith, cells));
        items =
            (let most =
            few_items g t can.is_tree can.nodes (cuts_of (nest_form g s t grain stage)) (pass_count s stage) few in
            omega (arith, most));
        reads = λ i step of_stage.
            narrow g (outer_schedule s) t can.no_fault
            (in_a_stage g (outer_schedule s) t can.law can.ordered.once can.is_tree) i step;
        few = omega arith;
      });
}
