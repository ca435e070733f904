use Rattle.std.proofs.Common.{◌≡◌, ◌++◌, ◌∷◌, [], ℕ, List, Option, None, get_or, length, ap₂, refl, sym, ◌∙◌, arith}
use Rattle.std.proofs.lemmas.List.{length-map, take_all, take_more}
use Rattle.ftl_cursors.specs.items.HostRows.{host_at}
use Rattle.ftl_cursors.specs.items.StageItems.{hosts_in}
use Rattle.ftl_cursors.specs.declared.items.view.StageItems.{StageItems}
use Rattle.ftl_cursors.proofs.items.RowsByHost.{same_host}
use Rattle.ftl_schedule.specs.stages.Stages.{pass_of}
use Rattle.ftl_plan.proofs.plans.phases.have_hosts.Goals as goal

-- there is one for each pass
hosts_long : (items : StageItems) → length (hosts_in items) ≡ length items.passes.now
hosts_long items = length-map items.cuts.now (host_at items.rows.now) ∙ items.numbers.count_is

pub overflow_cast-count : goal.overflow_cast-count
overflow_cast-count c =
    let few = c.args.items.fit.few in
    let long = length-map c.args.items.passes.now pass_of in
    omega (arith, few, long)

pub loop-pass-init : goal.loop-pass-init
loop-pass-init c = refl

pub bounds-hosts-pass : goal.bounds-hosts-pass
bounds-hosts-pass c =
    let test = c.loop-pass-test.true in
    let same = c.if-items-hosts.false in
    omega (arith, test, same)

pub host-requires : goal.host-requires
host-requires c = record { known = c.loop-pass-test.true }

pub loop-pass-preserved : goal.loop-pass-preserved
loop-pass-preserved c =
    let items = c.args.items in
    let hosts = c.args.hosts.now in
    let n = c.loop-pass.pass in
    let test = c.loop-pass-test.true in
    let same = c.if-items-hosts.false in
    let long = hosts_long items in
    let one =
    same_host (get_or hosts n None) c.host.result (sym c.is_one_host.ensures.one ∙ c.if-not-is_one_host.false) in
    take_more hosts n None (omega (arith, test, same))
    ∙ ap₂ (λ (hs : List (Option ℕ)) h. hs ++ h ∷ []) c.loop-pass.invariant (one ∙ c.host.ensures.host)
    ∙ sym (take_more (hosts_in items) n None (omega (arith, test, long)))

pub returns : goal.returns
returns c =
    let items = c.args.items in
    let hosts = c.args.hosts.now in
    let n = c.loop-pass.pass in
    let past = c.loop-pass-test.false in
    let same = c.if-items-hosts.false in
    let long = hosts_long items in
    record {
      hosts = λ _.
          sym (take_all n hosts (omega (arith, past, same)))
          ∙ c.loop-pass.invariant
          ∙ take_all n (hosts_in items) (omega (arith, past, long));
    }
