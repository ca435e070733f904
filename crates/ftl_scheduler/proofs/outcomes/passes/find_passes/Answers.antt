use Rattle.std.proofs.Common.{◌↔◌, ◌⊎◌, ℕ, List, sym, ◌∙◌, ap, subst, arith, Contains}
use Rattle.std.proofs.lemmas.Bool.{true≢false}
use Rattle.ftl_schedule.specs.stages.Stages.{pass_of, stages_of}
use Rattle.ftl_order.specs.automatic.Automatic.{IsChain}
use Rattle.ftl_scheduler.specs.largest_sets.Rows.{Has, Row}
use Rattle.ftl_scheduler.proofs.outcomes.PassChains.{IsPassing, fewer_lacking, passing_end, passing_more, passing_none}
use Rattle.ftl_scheduler.proofs.outcomes.StagePush.{stages_push}
use Rattle.ftl_scheduler.proofs.outcomes.passes.find_passes.Goals as goal

pub loop-stages-init : goal.loop-stages-init
loop-stages-init c =
    subst (λ ss. IsPassing c.args.tables.now c.args.all.now (stages_of (record { stages = ss })) c.empty-done.result)
    (sym c.new-stages.ensures.items)
    (passing_none c.args.tables.now c.args.all.now c.empty-done.result c.empty-done.ensures.none)

pub returns-then-is_empty-clause-chain : goal.returns-then-is_empty-clause-chain
returns-then-is_empty-clause-chain c g law tables computed =
    subst (λ ss. IsChain g (stages_of (record { stages = ss }))) (sym c.from_vec-stages.ensures)
    (passing_end c.args.tables.now c.args.all.now g law tables computed
    (stages_of (record { stages = c.loop-stages.stages.items })) c.loop-stages.done (pass_of c.in_ok-pass.pass)
    c.loop-stages.invariant c.in_ok-pass.ensures.next (c.is_empty.ensures.0 c.if-is_empty.true))

pub add_all-requires : goal.add_all-requires
add_all-requires c = record {
  few = λ a h.
      let there = (c.in_ok-pass.ensures.new a (subst (λ xs. Contains xs a) c.as_slice.ensures h)).0 in
      let known = c.requires.usable.down_sized.known a there in
      let few = c.requires.usable.down_sized.few in
      omega (arith, known, few);
}

-- one row has what another has, and a list
abbrev Both : Row → Row → List ℕ → Type 0
Both old new list = (b : ℕ) → Has new b ↔ (Has old b ⊎ Contains list b)

pub loop-stages-smaller : goal.loop-stages-smaller
loop-stages-smaller c =
    fewer_lacking c.args.all.now c.loop-stages.done c.add_all.new.row c.in_ok-pass.pass.attrs
    (λ a there.
    let known = c.requires.usable.down_sized.known a there in
    let few = c.requires.usable.down_sized.few in
    omega (arith, known, few))
    c.in_ok-pass.ensures.new (λ e. true≢false (sym (c.is_empty.ensures.1 e) ∙ c.if-is_empty.false))
    (subst (λ xs. Both c.loop-stages.done c.add_all.new.row xs) c.as_slice.ensures c.add_all.ensures.both)

pub loop-stages-preserved : goal.loop-stages-preserved
loop-stages-preserved c =
    passing_more c.args.tables.now c.args.all.now (stages_of (record { stages = c.loop-stages.stages.items }))
    (stages_of (record { stages = c.push.new.self.items })) c.loop-stages.done c.add_all.new.row
    (pass_of c.in_ok-pass.pass) c.loop-stages.invariant c.in_ok-pass.ensures.next
    (λ e. true≢false (sym (c.is_empty.ensures.1 e) ∙ c.if-is_empty.false))
    (subst (λ xs. Both c.loop-stages.done c.add_all.new.row xs) c.as_slice.ensures c.add_all.ensures.both)
    (ap (λ ss. stages_of (record { stages = ss })) c.in_ok-push.ensures.items
    ∙ stages_push c.loop-stages.stages.items c.in_ok-stage_of.field-0 c.in_ok-pass.pass c.in_ok-stage_of.ensures.one)
