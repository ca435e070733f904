use Rattle.std.proofs.Common.{Some, None}
use Rattle.ftl_page.specs.declared.commands.command.Command.TheVariants as command
use Rattle.ftl_answer.proofs.headline.Tables.{accepted_one, changed_one, edited_one}
use Rattle.ftl_answer.proofs.headline.Written.{writes_the_change, writes_the_change_in_memory}
use Rattle.ftl_answer.proofs.headline.Written.{writes_the_boxes, writes_the_boxes_by_demand, writes_the_explanation}
use Rattle.ftl_answer.proofs.headline.Written.{writes_the_boxes_by_demand_in_memory, writes_the_boxes_in_memory}
use Rattle.ftl_answer.proofs.headline.promises.the_headline.Goals as goal

pub returns : goal.returns
returns c =
    let ones = c.one_answer.ensures.one in
    record {
      boxes = writes_the_boxes ones;
      memory = writes_the_boxes_in_memory ones;
      table = accepted_one;
      demand_boxes = writes_the_boxes_by_demand ones;
      demand_memory = writes_the_boxes_by_demand_in_memory ones;
      demand_table = λ bytes. c.one_table.ensures.one (Some command.Demand) None bytes tt;
      edit_boxes = writes_the_change ones;
      edit_memory = writes_the_change_in_memory ones;
      edit_tables = edited_one;
      edit_count = λ bytes c t es x. let one = (changed_one bytes c t es x).1 in (one.some, one.any_two);
      explanation = writes_the_explanation ones;
    }
