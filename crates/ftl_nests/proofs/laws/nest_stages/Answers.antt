use Rattle.std.proofs.Common.{suc}
use Rattle.ftl_cells.proofs.shared.Shapes.{is_lawful}
use Rattle.ftl_items.proofs.stage_items.FormWork.{form_lawful_shape}
use Rattle.ftl_items.proofs.stage_items.WordLaws.{form_words_fit}
use Rattle.ftl_nests.specs.NestItems.{nest_form, nest_work, pass_count}
use Rattle.ftl_nests.specs.Nests.{outer_schedule}
use Rattle.ftl_nests.proofs.NestForms.{kind_at, nests_are_forms, place, step_of}
use Rattle.ftl_nests.proofs.laws.nest_stages.Goals as goal

pub returns : goal.returns
returns c = record {
  lawful = λ g s t law ordered none fits grain stage solution max_reads max_stack within.
      is_lawful (nest_work g s t grain stage solution max_reads max_stack)
      (form_lawful_shape g t law fits (pass_count s stage) (nest_form g s t grain stage)
      (kind_at g s t law ordered none fits grain stage) (place g s t law ordered none fits grain stage)
      (nests_are_forms g s t law ordered none fits grain stage) solution max_reads max_stack
      (record {
        values = within.values;
        cells = within.cells;
        items = within.items;
        reads = λ m i is_of.
            let of = step_of g s t law ordered none fits grain stage m i is_of in
            within.reads i of.0 of.1.0;
        few = within.few;
      }));
  next = λ g s t law ordered none fits grain stage.
      form_words_fit g (outer_schedule s) t stage (pass_count s stage) (pass_count s (suc stage))
      (nest_form g s t grain stage) (nest_form g s t grain (suc stage));
}
