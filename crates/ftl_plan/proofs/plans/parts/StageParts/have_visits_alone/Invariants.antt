use Rattle.std.proofs.Common.{ℕ, ◌<◌}
use Rattle.ftl_plan.specs.plans.VisitsAlone.{IsVisitsAlone}
use Rattle.ftl_plan.proofs.plans.parts.StageParts.have_visits_alone.Given as goal

abbrev pub invariant-loop-pass : goal.invariant-loop-pass
invariant-loop-pass l = (m : ℕ) → m < l.pass → IsVisitsAlone l.tables m
