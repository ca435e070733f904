use Rattle.ftl_cells.proofs.shared.Shapes.{is_lawful}
use Rattle.ftl_items.specs.stage_items.StageWork.{stage_work}
use Rattle.ftl_items.proofs.stage_items.WorkLaws.{lawful_shape}
use Rattle.ftl_items.proofs.stage_items.work_laws.stages.Goals as goal

pub returns : goal.returns
returns c = record {
  lawful = λ g s t law ordered fits grain stage solution max_reads max_stack limits.
      is_lawful (stage_work g s t grain stage solution max_reads max_stack)
      (lawful_shape g s t law ordered fits grain stage solution max_reads max_stack limits);
}
