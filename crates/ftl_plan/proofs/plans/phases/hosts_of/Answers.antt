use Rattle.std.proofs.Common.{◌≡◌, ◌++◌, ◌∷◌, [], ℕ, List, Option, None, length, ap₂, sym, ◌∙◌, arith}
use Rattle.std.proofs.lemmas.List.{length-map, take_all, take_more}
use Rattle.ftl_cursors.specs.items.HostRows.{host_at}
use Rattle.ftl_cursors.specs.items.StageItems.{hosts_in}
use Rattle.ftl_cursors.specs.declared.items.view.StageItems.{StageItems}
use Rattle.ftl_schedule.specs.stages.Stages.{pass_of}
use Rattle.ftl_plan.proofs.plans.phases.hosts_of.Goals as goal

-- there is one for each pass
hosts_long : (items : StageItems) → length (hosts_in items) ≡ length items.passes.now
hosts_long items = length-map items.cuts.now (host_at items.rows.now) ∙ items.numbers.count_is

pub overflow_cast-count : goal.overflow_cast-count
overflow_cast-count c =
    let few = c.args.items.fit.few in
    let long = length-map c.args.items.passes.now pass_of in
    omega (arith, few, long)

pub loop-pass-init : goal.loop-pass-init
loop-pass-init c = c.in_ok-hosts.ensures.items

pub host-requires : goal.host-requires
host-requires c =
    let test = c.loop-pass-test.true in
    record { known = omega (arith, test) }

pub loop-pass-preserved : goal.loop-pass-preserved
loop-pass-preserved c =
    let items = c.args.items in
    let test = c.loop-pass-test.true in
    let long = hosts_long items in
    c.in_ok-push.ensures.items
    ∙ ap₂ (λ (hs : List (Option ℕ)) h. hs ++ h ∷ []) c.loop-pass.invariant c.host.ensures.host
    ∙ sym (take_more (hosts_in items) c.loop-pass.pass None (omega (arith, test, long)))

pub returns : goal.returns
returns c =
    let items = c.args.items in
    let past = c.loop-pass-test.false in
    let long = hosts_long items in
    record {
      hosts =
          c.loop-pass.invariant
          ∙ take_all c.loop-pass.pass (hosts_in items) (omega (arith, past, long));
    }
