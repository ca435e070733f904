use Rattle.ftl_plan.specs.plans.StageWords.{FitStage}
use Rattle.ftl_plan.proofs.plans.alone.solve_alone.Given as goal

abbrev pub invariant-loop-stage : goal.invariant-loop-stage
invariant-loop-stage l = FitStage l.plan l.stage l.words.items
