use Rattle.std.proofs.Common.{◌≡◌, ◌≢◌, subst, arith, get_or}
use Rattle.ftl_replay.proofs.interleavings.Moves.{looks_ready, looks_waiting}
use Rattle.ftl_replay.proofs.interleavings.steps.look.Goals as goal

pub returns-then-count-eq0-clause-step : goal.returns-then-count-eq0-clause-step
returns-then-count-eq0-clause-step g c = λ hand. looks_ready (g.W.Meant.meaning c.args.work.now) c.args.row.now hand
    c.args.place
    c.args.item c.in-Idle.is (omega arith)
    (subst (λ a. get_or c.args.row.now a 0 ≡ 0) c.count_at.ensures.word (omega arith))

pub returns-clause-step : goal.returns-clause-step
returns-clause-step g c = λ hand. looks_waiting (g.W.Meant.meaning c.args.work.now) c.args.row.now hand c.args.place
    c.args.item
    c.in-Idle.is (omega arith) (subst (λ a. get_or c.args.row.now a 0 ≢ 0) c.count_at.ensures.word (λ z. omega arith))
