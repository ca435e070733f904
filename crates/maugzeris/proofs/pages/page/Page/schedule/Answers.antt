use Rattle.std.proofs.Common.{◌≡◌, ◌∙◌, ap, sym, false}
use Rattle.ftl_deps.specs.reads.Meant.{meant}
use Rattle.ftl_step_value.specs.limits.faults.PlanFaults.{first_fault}
use Rattle.ftl_nest_check.specs.check.NestAccepted.{AcceptedNestingSchedule}
use Rattle.ftl_nest_check.specs.stages.Nested.{nests_of}
use Rattle.ftl_nests.specs.Nests.{outer_schedule}
use Rattle.maugzeris.specs.pages.PageState.{PageState}
use Rattle.maugzeris.proofs.pages.Values.{not_there}
use Rattle.maugzeris.proofs.pages.page.Page.schedule.Goals as goal

pub returns : goal.returns
returns c =
    let x = c.self.inside in
    let k = x.rules.now.checked in
    let is = c.schedule.ensures.schedule in
    record {
      grammar =
          ap (λ (a : AcceptedNestingSchedule). a.checked) is ∙ ap (λ (p : PageState). p.checked) c.self.view_is;
      fits = λ none.
          let before : x.laid_out ≡ false =
          not_there x.laid_out x.values.items (ap (λ (p : PageState). p.values) c.self.view_is ∙ none) in
          ap (λ (p : PageState).
          first_fault (meant p.checked) (outer_schedule (nests_of c.schedule.result.now.schedule)) p.tree)
          (sym c.self.view_is)
          ∙ (ap (λ (a : AcceptedNestingSchedule).
          first_fault (meant k) (outer_schedule (nests_of a.schedule)) x.tree.tree) is
          ∙ c.self.invariant.fits before);
    }
