use Rattle.std.proofs.Common.{◌∙◌, sym, subst, add-one}
use Rattle.ftl_cells.specs.shared.State.{AreFirst}
use Rattle.ftl_deps.specs.reads.Meant.{meant}
use Rattle.ftl_plan.specs.plans.StageParts.{meaning_at}
use Rattle.ftl_plan.specs.plans.StageTables.{stage_in}
use Rattle.ftl_nest_check.specs.stages.Nested.{nests_of}
use Rattle.ftl_plan.proofs.plans.plan.Plan.words_fit.Goals as goal

pub returns : goal.returns
returns c =
    let p = c.args.self.now in
    let g = meant p.checked in
    let s = nests_of p.schedule in
    let can = c.stage_count-stages.ensures.plan in
    let most = p.programs.max_stack in
    let law = c.words_of_stages.ensures in
    record {
      first = record {
        first = law.first g s p.tree can p.grain most;
        done = λ none. law.no_stages g s p.tree can (sym none);
      };
      next = λ stage words last. record {
        first =
            subst (λ k. AreFirst (meaning_at (stage_in p k)) words) (sym (add-one stage))
            (law.next g s p.tree can p.grain stage most words last);
        done = λ end. law.last g s p.tree can p.grain stage most words (sym (add-one stage) ∙ end) last;
      };
    }
