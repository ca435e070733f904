use Rattle.std.proofs.Common.{length}
use Rattle.ftl_items.specs.stage_items.Items.{cut_of, passes_of}
use Rattle.ftl_items.proofs.stage_items.CutItems.{distinct-items}
use Rattle.ftl_items.proofs.stage_items.StepLaws.{step_here, step_in_one, steps_once}
use Rattle.ftl_items.proofs.stage_items.step_laws.steps.Goals as goal

pub returns : goal.returns
returns c = record {
  of_pass = λ g s t law ordered fits grain stage x i h.
      let here = step_here g s t law ordered fits grain stage x i h in
      (here.step, here.pass);
  one_item = λ g s t law ordered fits grain stage. step_in_one g s t law ordered fits grain stage;
  once = λ g s t law ordered fits grain stage. steps_once g s t law ordered fits grain stage;
  items = λ g s t law ordered fits grain stage. distinct-items (length (passes_of s stage)) (cut_of (passes_of s stage) t grain) t;
}
