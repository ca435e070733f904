use Rattle.std.proofs.Common.{arith}
use Rattle.ftl_replay.proofs.interleavings.Moves.{ends_here, finds_more}
use Rattle.ftl_replay.proofs.interleavings.steps.left.Goals as goal

pub returns-then-row-eq0-clause-step : goal.returns-then-row-eq0-clause-step
returns-then-row-eq0-clause-step g c = λ hand. ends_here (g.W.Meant.meaning c.args.work.now) c.args.row.now hand
    c.args.place c.in-Idle.is (omega arith)

pub returns-clause-step : goal.returns-clause-step
returns-clause-step g c = λ hand. finds_more (g.W.Meant.meaning c.args.work.now) c.args.row.now hand c.args.place
    c.in-Idle.is
    (λ z. omega arith)
