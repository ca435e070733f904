use Rattle.std.proofs.Common.{subst, sym, arith, set}
use Rattle.ftl_cells.specs.declared.shared.place.HandPlace.TheVariants.{Working, Filled}
use Rattle.ftl_replay.specs.declared.interleavings.event.Event.TheVariants.{Mark}
use Rattle.ftl_replay.specs.interleavings.Replays.{StepsTo}
use Rattle.ftl_replay.proofs.interleavings.Moves.{marks_item}
use Rattle.ftl_replay.proofs.interleavings.steps.mark.Goals as goal

pub returns-clause-step : goal.returns-clause-step
returns-clause-step g c =
    λ hand. subst
    (λ p. StepsTo (g.W.Meant.meaning c.args.work.now) (Mark hand) c.args.row.now.items p
    (set c.args.row.now.items c.state_at.result 2)
    (Filled c.in-Working.item)) (sym c.in-Working.is)
    (subst
    (λ a. StepsTo (g.W.Meant.meaning c.args.work.now) (Mark hand) c.args.row.now.items
    (Working c.in-Working.item c.in-Working.step c.in-Working.reads)
    (set c.args.row.now.items a 2) (Filled c.in-Working.item)) (sym c.state_at.ensures.word)
    (marks_item (g.W.Meant.meaning c.args.work.now) c.args.row.now.items hand c.in-Working.item c.in-Working.step
    c.in-Working.reads (omega arith)))
