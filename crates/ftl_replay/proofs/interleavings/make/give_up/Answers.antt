use Rattle.std.proofs.Common.{rules, subst, arith}
use Rattle.ftl_cells.specs.shared.State.{IsFree}
use Rattle.ftl_replay.specs.interleavings.Events.{place_at}
use Rattle.ftl_replay.proofs.interleavings.Made.{makes_join}
use Rattle.ftl_replay.proofs.interleavings.make.give_up.Goals as goal

pub returns-clause-step : goal.returns-clause-step
returns-clause-step c =
    let f : IsFree (place_at c.as_slice.result.now c.args.hand) = search rules in
    let h : IsFree (place_at c.as_slice-2.result.now c.args.other) = search rules in
    λ t m words. makes_join m c.args.hand c.args.other words c.args.hands.now.items (λ e. omega arith)
    (subst (λ ps. IsFree (place_at ps c.args.hand)) c.as_slice.ensures.value f)
    (subst (λ ps. IsFree (place_at ps c.args.other)) c.as_slice-2.ensures.value h)
