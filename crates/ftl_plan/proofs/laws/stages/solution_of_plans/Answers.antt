use Rattle.ftl_nests.specs.Flat.{flat_schedule}
use Rattle.ftl_plan.proofs.laws.stages.solution_of_plans.Goals as goal

pub returns : goal.returns
returns c = record {
  solves = λ g s t can.
      (c.solution_solves.ensures.ordered g (flat_schedule s) t can.law
      (c.flat_schedules.ensures.flat g s can.law can.ordered) can.is_tree).solves;
}
