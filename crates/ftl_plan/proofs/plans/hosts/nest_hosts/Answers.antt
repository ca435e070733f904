use Rattle.std.proofs.Common.{List, subst, arith}
use Rattle.std.specs.List.{All}
use Rattle.std.proofs.lemmas.List.{take_all}
use Rattle.std.proofs.lemmas.List.Elements.{All-nil}
use Rattle.ftl_nest_check.specs.declared.stages.types.NestingPass.{NestingPass}
use Rattle.ftl_plan.specs.plans.PlannedStages.{HasHost, HasHosts, pass_hosts}
use Rattle.ftl_plan.proofs.plans.HostNumbers.{stage_more}
use Rattle.ftl_plan.proofs.plans.hosts.nest_hosts.Goals as goal

pub loop-stage-init : goal.loop-stage-init
loop-stage-init c = All-nil (HasHosts c.new-hosts.result.items)

pub loop-stage-preserved : goal.loop-stage-preserved
loop-stage-preserved c =
    let new = c.add_hosts.new.hosts.items in
    stage_more c.loop-stage.hosts.items new c.in_ok-add_hosts.ensures.kept c.args.stages.now c.loop-stage.stage-index
    c.stage-item.result c.loop-stage-test.true c.stage-item.is c.loop-stage.invariant
    (subst (λ (ps : List NestingPass). All (HasHost new) (pass_hosts ps)) c.as_slice.ensures
    c.in_ok-add_hosts.ensures.hosts)

pub returns : goal.returns
returns c =
    let past = c.loop-stage-test.false in
    record {
      hosts =
          subst (All (HasHosts c.loop-stage.hosts.items))
          (take_all c.loop-stage.stage-index c.args.stages.now (omega (arith, past))) c.loop-stage.invariant;
    }
