use Rattle.std.proofs.Common.{◌+◌, subst, sym, arith}
use Rattle.ftl_cells.specs.shared.Kept.{IsInRange}
use Rattle.ftl_cells.specs.declared.shared.place.HandPlace.TheVariants.{Working}
use Rattle.ftl_replay.specs.declared.interleavings.event.Event.TheVariants.{Read}
use Rattle.ftl_cells.specs.shared.State.{live}
use Rattle.ftl_replay.specs.interleavings.Replays.{StepsTo}
use Rattle.ftl_replay.proofs.interleavings.Moves.{in_range, reads_next}
use Rattle.ftl_replay.proofs.interleavings.steps.read.Goals as goal

pub returns-clause-step : goal.returns-clause-step
returns-clause-step g c =
    let range : IsInRange (g.W.Meant.meaning c.args.work.now) (live (Working c.in-Working.item c.in-Working.step
    c.in-Working.reads)) =
    subst (λ p. IsInRange (g.W.Meant.meaning c.args.work.now) (live p)) c.in-Working.is
    (in_range (g.W.Meant.meaning c.args.work.now) c.args.row.now c.args.place c.requires.stage) in
    λ hand. subst
    (λ p. StepsTo (g.W.Meant.meaning c.args.work.now) (Read hand) c.args.row.now p c.args.row.now
    (Working c.in-Working.item c.in-Working.step (c.in-Working.reads + 1))) (sym c.in-Working.is)
    (reads_next (g.W.Meant.meaning c.args.work.now) c.args.row.now hand c.in-Working.item c.in-Working.step
    c.in-Working.reads
    (omega arith) (omega arith))
