use Rattle.ftl_cells.proofs.shared.Shapes.{is_lawful}
use Rattle.ftl_items.specs.stage_items.StageWork.{work_by}
use Rattle.ftl_items.proofs.stage_items.FormWork.{form_lawful_shape}
use Rattle.ftl_items.proofs.stage_items.form_laws.forms.Goals as goal

pub returns : goal.returns
returns c = record {
  lawful = λ g t law fits count forms kind_at place are solution max_reads max_stack limits.
      is_lawful (work_by g t count forms kind_at solution max_reads max_stack)
      (form_lawful_shape g t law fits count forms kind_at place are solution max_reads max_stack limits);
}
