use Rattle.std.proofs.Common.{subst, ap, arith}
use Rattle.std.specs.List.{All}
use Rattle.std.proofs.lemmas.List.{take_all}
use Rattle.std.proofs.lemmas.List.Elements.{All-nil}
use Rattle.ftl_plan.specs.plans.PlannedStages.{HasHost, pass_hosts}
use Rattle.ftl_plan.proofs.plans.HostNumbers.{pass_more}
use Rattle.ftl_plan.proofs.plans.hosts.add_hosts.Goals as goal

pub loop-pass-init : goal.loop-pass-init
loop-pass-init c = record { kept = λ a there. there; hosts = All-nil (HasHost c.args.hosts.now.items) }

pub loop-pass-preserved : goal.loop-pass-preserved
loop-pass-preserved c =
    let inv = c.loop-pass.invariant in
    let step = c.in_ok-add_host.ensures in
    record {
      kept = λ a there. step.kept a (inv.kept a there);
      hosts =
          pass_more c.loop-pass.hosts.items c.add_host.new.hosts.items step.kept c.args.passes.now c.loop-pass.pass-index
          c.pass-item.result c.loop-pass-test.true c.pass-item.is inv.hosts step.host;
    }

pub returns : goal.returns
returns c =
    let past = c.loop-pass-test.false in
    record {
      kept = c.loop-pass.invariant.kept;
      hosts =
          subst (All (HasHost c.loop-pass.hosts.items))
          (ap pass_hosts (take_all c.loop-pass.pass-index c.args.passes.now (omega (arith, past))))
          c.loop-pass.invariant.hosts;
    }
