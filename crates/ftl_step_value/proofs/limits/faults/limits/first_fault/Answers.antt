use Rattle.std.proofs.Common.{◌≡◌, Some, None, ap, ◌∙◌, subst, sym}
use Rattle.std.specs.Option.{option_or}
use Rattle.ftl_deps.specs.reads.Meant.{meant}
use Rattle.ftl_model.specs.layout.Table.{instance_count}
use Rattle.ftl_schedule.specs.stages.Stages.{stages_of}
use Rattle.ftl_step_value.specs.limits.faults.PlanFaults.{first_of_stages, step_too_wide, too_many_reads}
use Rattle.ftl_step_value.specs.limits.faults.StageReads.{AreCounts}
use Rattle.ftl_step_value.proofs.limits.faults.Faults.{many_is, wide_is}
use Rattle.ftl_step_value.proofs.limits.faults.limits.first_fault.Goals as goal

pub returns-in-Some : goal.returns-in-Some
returns-in-Some c =
    let t = c.args.tree.now in
    let g = meant t.checked in
    let s = stages_of c.args.placed.now in
    let are : AreCounts g s t.tree (instance_count g t.tree) c.as_slice.result.now =
    subst (AreCounts g s t.tree (instance_count g t.tree)) (sym c.as_slice.ensures.value)
    c.in_ok-counts.ensures.counts in
    let found : Some c.in-Some.fault ≡ first_of_stages s (too_many_reads g s t.tree) =
    c.in-Some.ensures.fault ∙ many_is g s t.tree c.as_slice.result.now are in
    record { fault = ap (λ o. option_or o (first_of_stages s (step_too_wide g s t.tree))) found }

pub returns : goal.returns
returns c =
    let t = c.args.tree.now in
    let g = meant t.checked in
    let s = stages_of c.args.placed.now in
    let are : AreCounts g s t.tree (instance_count g t.tree) c.as_slice.result.now =
    subst (AreCounts g s t.tree (instance_count g t.tree)) (sym c.as_slice.ensures.value)
    c.in_ok-counts.ensures.counts in
    let more : AreCounts g s t.tree (instance_count g t.tree) c.as_slice-in-None.result.now =
    subst (AreCounts g s t.tree (instance_count g t.tree)) (sym c.as_slice-in-None.ensures.value)
    c.in_ok-counts.ensures.counts in
    let none : None ≡ first_of_stages s (too_many_reads g s t.tree) =
    c.in-None.ensures.fault ∙ many_is g s t.tree c.as_slice.result.now are in
    record {
      fault =
          c.first_too_wide.ensures.fault
          ∙ wide_is g s t.tree c.as_slice-in-None.result.now more
          ∙ ap (λ o. option_or o (first_of_stages s (step_too_wide g s t.tree))) none;
    }
