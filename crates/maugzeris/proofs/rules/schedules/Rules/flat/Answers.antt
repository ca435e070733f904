use Rattle.std.proofs.Common.{◌∙◌, ap}
use Rattle.ftl_nest_check.specs.check.NestAccepted.{AcceptedNestingSchedule}
use Rattle.maugzeris.proofs.rules.schedules.Rules.flat.Goals as goal

pub returns : goal.returns
returns c = record {
  grammar = c.flat.ensures.flat.grammar ∙ ap (λ (a : AcceptedNestingSchedule). a.checked) c.self.view_is;
}
