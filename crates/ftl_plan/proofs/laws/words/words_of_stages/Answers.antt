use Rattle.std.proofs.Common.{sym, ◌∙◌}
use Rattle.std.proofs.lemmas.List.{length-map}
use Rattle.ftl_items.specs.solution.Solution.{solution}
use Rattle.ftl_nests.specs.NestItems.{nest_form, pass_count}
use Rattle.ftl_nests.specs.Nests.{outer_schedule, whole_stage}
use Rattle.ftl_plan.proofs.laws.EndWords.{no_stages, words_first, words_last}
use Rattle.ftl_plan.proofs.laws.words.words_of_stages.Goals as goal

pub returns : goal.returns
returns c = record {
  first = λ g s t can grain max_stack.
      words_first g (outer_schedule s) t can.law can.ordered.once can.is_tree (solution g t)
      (c.solution_of_plans.ensures.solves g s t can) (pass_count s 0) (nest_form g s t grain 0) 1048576 max_stack;
  next = λ g s t can grain stage max_stack words last.
      c.nest_stages.ensures.next g s t can.law can.ordered can.no_inorder can.is_tree grain stage (solution g t) 1048576
      max_stack 1048576 max_stack words last;
  last = λ g s t can grain stage max_stack words end last.
      words_last g (outer_schedule s) t can.law can.ordered.once can.is_tree (solution g t)
      (c.solution_of_plans.ensures.solves g s t can) (pass_count s stage) (nest_form g s t grain stage) stage 1048576
      max_stack words (end ∙ sym (length-map s whole_stage)) last;
  no_stages = λ g s t can none.
      no_stages g (outer_schedule s) t can.law can.ordered.once can.is_tree (solution g t)
      (c.solution_of_plans.ensures.solves g s t can) (length-map s whole_stage ∙ none);
}
