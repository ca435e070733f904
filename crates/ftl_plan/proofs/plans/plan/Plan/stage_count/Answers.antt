use Rattle.std.proofs.Common.{◌≤◌, ap, subst, arith, length}
use Rattle.std.proofs.lemmas.List.{length-map}
use Rattle.ftl_deps.specs.reads.Meant.{meant}
use Rattle.ftl_model.specs.layout.Table.{instance_count}
use Rattle.ftl_model.specs.layout.Tree.{size}
use Rattle.ftl_nests.specs.Nests.{outer_schedule, whole_stage}
use Rattle.ftl_nest_check.specs.stages.Nested.{nests_of}
use Rattle.ftl_nest_check.specs.declared.stages.types.NestingSchedule.{NestingSchedule}
use Rattle.ftl_nest_check.proofs.check.OuterLimits.{outer_limits}
use Rattle.ftl_plan.specs.plans.Planned.{PlanMeaning}
use Rattle.ftl_plan.proofs.plans.FewPasses.{stage_of}
use Rattle.ftl_plan.proofs.plans.StagesOfPlans.{can_be_planned}
use Rattle.ftl_plan.specs.laws.StageMeanings.{CanBePlanned}
use Rattle.ftl_schedule.proofs.stages.FewPasses.{few_stages}
use Rattle.ftl_plan.proofs.plans.plan.Plan.stage_count.Goals as goal

-- a schedule within the limits has few stages
pub overflow_cast-result : goal.overflow_cast-result
overflow_cast-result c =
    let s = c.self.inside.accepted.now.schedule in
    let few = few_stages (outer_schedule (nests_of s)) (outer_limits (nests_of s) c.self.invariant.accepted.may.limits) in
    let outer = length-map (nests_of s) whole_stage in
    let long = length-map s.stages stage_of in
    let same = ap (λ (x : NestingSchedule). length x.stages) c.schedule.ensures.schedule in
    omega (arith, few, outer, long, same, c.len.ensures)

pub returns-clause-plan : goal.returns-clause-plan
returns-clause-plan c =
    let t = c.self.inside.tree.now in
    let nodes = c.node_count-nodes.ensures in
    let cells = c.instance_count-cells.ensures in
    let most_nodes : size t.tree ≤ 1048576 = omega (arith, nodes.count, nodes.bound) in
    let most_cells : instance_count (meant t.checked) t.tree ≤ 33554432 = omega (arith, cells.count, cells.bound) in
    subst (λ (q : PlanMeaning). CanBePlanned (meant q.checked) (nests_of q.schedule) q.tree) c.self.view_is
    (can_be_planned c.self.inside c.self.invariant nodes.is_tree most_nodes most_cells)
