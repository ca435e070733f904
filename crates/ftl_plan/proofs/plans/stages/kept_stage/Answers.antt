use Rattle.std.proofs.Common.{◌≤◌, ℕ, List, Option, length, ap, ◌∙◌, sym, subst, Contains}
use Rattle.std.specs.List.{All}
use Rattle.std.proofs.lemmas.List.{length-map}
use Rattle.ftl_deps.specs.reads.Meant.{meant}
use Rattle.ftl_cursors.specs.items.HostRows.{hosts_of}
use Rattle.ftl_cursors.specs.stages.StageRows.{AreStageRows}
use Rattle.ftl_schedule.specs.declared.stages.types.Pass.{Pass}
use Rattle.ftl_plan.specs.plans.PlannedStages.{own_pass, pass_host, pass_hosts}
use Rattle.ftl_plan.proofs.plans.stages.kept_stage.Goals as goal

pub new-requires : goal.new-requires
new-requires c =
    let passes = c.args.passes.now in
    let own = c.as_slice.ensures.value ∙ c.in_ok-own.ensures.passes in
    let hosts = c.as_slice-2.ensures.value ∙ c.in_ok-hosts.ensures.hosts in
    let count = ap (λ (ps : List Pass). length ps) own ∙ length-map passes own_pass in
    record {
      few = subst (λ n. n ≤ 2048) (sym count) c.requires.few;
      count = ap (λ (hs : List (Option ℕ)). length hs) hosts ∙ length-map passes pass_host ∙ sym count;
      hosts = subst (All (Contains (hosts_of c.args.items.now))) (sym hosts) c.requires.hosts;
    }

pub returns : goal.returns
returns c =
    let g = meant c.args.index.now in
    let items = c.args.items.now in
    let hosts = c.as_slice-2.ensures.value ∙ c.in_ok-hosts.ensures.hosts in
    record {
      kept = record {
        own = c.in_ok-own.ensures.passes;
        rows =
            subst (λ (ps : List Pass). AreStageRows g items ps (pass_hosts c.args.passes.now) c.in_ok-rows.rows) c.as_slice.ensures.value
            (subst (λ (hs : List (Option ℕ)). AreStageRows g items c.as_slice.result.now hs c.in_ok-rows.rows) hosts
            c.in_ok-rows.ensures.rows);
        nests = c.in_ok-nests.ensures.nests;
      };
    }
